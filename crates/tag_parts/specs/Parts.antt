-- What is read off an answer: the bytes of its key and of its value, and what a value says.
use Rattle.std.specs.Prelude.{ℕ, ◌||◌, List, [], None, Some, Ok, Err, Bool, true, false, Option}
use Rattle.scan.specs.First.{pick}
use Rattle.scan.specs.Bytes.{inside, same_bytes, bytes}
use Rattle.tag_step.specs.Answer.{Answer}
use Rattle.tag_step.specs.declared.Attr.TheVariants.{DoubleQ, SingleQ, Unquoted, Empty}

-- the bytes of the key, where its span lies in the tag; none for an answer that is no attribute
unfoldable pub key_part : List ℕ → Answer → List ℕ
key_part s None = []
key_part s (Some (Ok (DoubleQ k v))) = inside s k.start k.end
key_part s (Some (Ok (SingleQ k v))) = inside s k.start k.end
key_part s (Some (Ok (Unquoted k v))) = inside s k.start k.end
key_part s (Some (Ok (Empty k))) = inside s k.start k.end
key_part s (Some (Err e)) = []

-- the bytes of the value, without quotes; Empty has none
unfoldable pub value_part : List ℕ → Answer → List ℕ
value_part s None = []
value_part s (Some (Ok (DoubleQ k v))) = inside s v.start v.end
value_part s (Some (Ok (SingleQ k v))) = inside s v.start v.end
value_part s (Some (Ok (Unquoted k v))) = inside s v.start v.end
value_part s (Some (Ok (Empty k))) = []
value_part s (Some (Err e)) = []

-- what a value says, by its number, for a function that can hand out no enum
abbrev pub truth_number : Option Bool → ℕ
truth_number (Some false) = 0
truth_number (Some true) = 1
truth_number None = 2

-- `1` and `true` yes, `0` and `false` no, else neither
unfoldable pub truth_of : List ℕ → Option Bool
truth_of v =
    pick (same_bytes v (bytes "1") || same_bytes v (bytes "true")) (Some true)
    (pick (same_bytes v (bytes "0") || same_bytes v (bytes "false")) (Some false) None)
