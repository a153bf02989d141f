-- The names of one tag looked up by one call across the boundary: three numbers for each, each in an array of its own.
use Rattle.std.specs.Prelude.{ℕ, Bool, ◌&&◌, List, length, get_or, eqb, ltb, Ok, Err}
use Rattle.scan.specs.First.{pick}
use Rattle.scan.specs.Bytes.{inside}
use Rattle.scan.specs.Lists.{over, list_to}
use Rattle.scope_table.specs.Table.{valid_of}
use Rattle.scope_table.specs.Answer.{form_number, told_of}
use Rattle.scope_table.specs.Lent.{lent}
use Rattle.scope_table.specs.declared.NamespaceResolver.{NamespaceResolver}
use Rattle.scope_table.specs.declared.Told.{Told}
use Rattle.scope_table.specs.declared.FormError.TheVariants as Is
use Rattle.scope_lookup.specs.Lookup.{resolved_numbers, resolve_of}
use Rattle.export_memory.specs.Boundary.{head_in}

-- what a call answers, and the three arrays that it writes
pub record Names : Type 0 where
  pub result : ℕ
  pub kinds : List ℕ
  pub begins : List ℕ
  pub ends : List ℕ

abbrev pub names : ℕ → (kinds begins ends : List ℕ) → Names
names r kinds begins ends = record { result = r; kinds = kinds; begins = begins; ends = ends }

-- Name i stands from its `from` to its `to` in the tag, and is empty where that is no part of it; the first names, as many as
-- `elements`, want the default. What it resolves to, by numbers.
unfoldable pub nth_of : (tag from to : List ℕ) (elements : ℕ) → NamespaceResolver → ℕ → Told
nth_of tag from to elements x i =
    told_of (resolved_numbers (resolve_of (inside tag (get_or from i 0) (get_or to i 0)) (ltb i elements) x))

-- n answers, written from the beginning of each array
unfoldable pub written_of : (ℕ → Told) → ℕ → (kinds begins ends : List ℕ) → Names
written_of f n kinds begins ends =
    names (form_number (Ok tt)) (over kinds 0 (list_to (λ i. (f i).number) n)) (over begins 0 (list_to (λ i. (f i).first) n))
    (over ends 0 (list_to (λ i. (f i).second) n))

-- 20 comes first, and writes nothing; else every name is answered.
unfoldable pub many_of : (tag from to : List ℕ) (elements : ℕ) (kinds begins ends : List ℕ) → NamespaceResolver → Names
many_of tag from to elements kinds begins ends x =
    pick (valid_of x) (written_of (nth_of tag from to elements x) (length from) kinds begins ends) (names (form_number (Err Is.BadResolver)) kinds begins ends)

-- As many starts as ends, and as many places for each part of an answer.
unfoldable pub alike_of : (from to kinds begins ends : List ℕ) → Bool
alike_of from to kinds begins ends =
    eqb (length to) (length from)
    && (eqb (length kinds) (length from)
    && (eqb (length begins) (length from)
    && eqb (length ends) (length from)))

-- The same on lent memory. Where an array has a wrong length nothing is written.
unfoldable pub many_in : (tag from to : List ℕ) (elements : ℕ) (kinds begins ends text records head : List ℕ) → Names
many_in tag from to elements kinds begins ends text records head =
    pick (alike_of from to kinds begins ends)
    (lent (names (form_number (Err Is.WrongLength)) kinds begins ends) (many_of tag from to elements kinds begins ends) text records (head_in head))
    (names (form_number (Err Is.WrongLength)) kinds begins ends)
