-- How far a step looks: the last position whose byte, or whose lack of one, it has to know. Where that is below the
-- length, the step does not turn on what may follow the tag.
use Rattle.std.specs.Prelude.{ℕ, ◌+◌, Bool, List, length, get_or, ltb, Result, Ok, Err, Option, Some, None}
use Rattle.scan.specs.First.{first_from, pick}
use Rattle.scan.specs.Bytes.{is_space, not_space, is_byte}
use Rattle.tag_keys.specs.declared.KeyRefusal.{KeyRefusal}
use Rattle.tag_keys.specs.declared.KeyRefusal.TheVariants.{Same, Full}
use Rattle.tag_step.specs.declared.IterState.{IterState}
use Rattle.tag_step.specs.declared.Place.{Place}
use Rattle.tag_step.specs.declared.KeyRead.{KeyRead}
use Rattle.tag_step.specs.declared.KeyRead.TheVariants.{Bare, Valued}
use Rattle.tag_step.specs.Read.{is_quote, recover_of, key_at}
use Rattle.tag_step.specs.Next.{Keys, check_of, keys_of}

-- a quoted value: its closing quote; an unquoted one: the whitespace after it; else the byte that is no quote
unfoldable pub look_in : List ℕ → Bool → ℕ → ℕ → ℕ
look_in s html v b = pick (is_quote b) (first_from (is_byte b) s (v + 1)) (pick html (first_from is_space s v) v)

unfoldable pub look_from : List ℕ → Bool → ℕ → ℕ
look_from s html v = pick (ltb v (length s)) (look_in s html v (get_or s v 0)) v

unfoldable pub look_value : List ℕ → Bool → ℕ → ℕ
look_value s html eq = look_from s html (first_from not_space s (eq + 1))

-- a key that is refused: its `=`
unfoldable pub look_by : List ℕ → Bool → ℕ → Result ℕ KeyRefusal → ℕ
look_by s html eq (Ok n) = look_value s html eq
look_by s html eq (Err (Same earlier)) = eq
look_by s html eq (Err Full) = eq

-- a bare key: the next byte that is no whitespace
unfoldable pub look_key : List ℕ → Bool → Bool → Keys → Option KeyRead → ℕ
look_key s html checks keys None = length s
look_key s html checks keys (Some (Bare key at)) = at
look_key s html checks keys (Some (Valued key eq)) = look_by s html eq (check_of s checks keys key)

unfoldable pub look_at : List ℕ → Bool → Bool → Keys → ℕ → ℕ
look_at s html checks keys o = look_key s html checks keys (key_at s o)

unfoldable pub look_start : List ℕ → Bool → Bool → Keys → Option ℕ → ℕ
look_start s html checks keys (Some o) = look_at s html checks keys o
look_start s html checks keys None = length s

unfoldable pub look_of : List ℕ → Bool → Bool → Keys → Place → ℕ
look_of s html checks keys place = look_start s html checks keys (recover_of s place)

-- how far `next` looks
abbrev pub look_next : List ℕ → IterState → ℕ
look_next s st = look_of s st.html st.check_duplicates (keys_of st) st.place
