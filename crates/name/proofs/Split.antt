-- The laws of the split: what each answer of the code is, that the parts put together give the name back, and that a
-- prefix with no colon, a colon and any rest split into just these.
use Prim.Native.Nat.{ℕ, ◌+◌, ◌≤◌, ◌<◌}
use mathlib.Core.Path.{◌≡◌, refl, sym, ◌∙◌}
use mathlib.Core.Bool.{Bool, true, false, true≢false}
use mathlib.Core.List.{List, [], ◌∷◌, ◌++◌}
use native.Mathlib.Numerals.{add-one}
use native.Mathlib.Omega.{arith}
use lib.ListN.{length, take, drop, get_or, length-append, get_or-append}
use lib.Seq.{length-take-le, get_or-take, split_at, take-append_seam, drop-append-add, get_or-append_seam}
use borrow.Author.Tests.{lt-ltb, le-ltb, ltb-true, ltb-false, eqb-true}
use lib.Dec.{ltb}
use Rattle.scan.specs.First.{pick, first_from, second_in}
use Rattle.scan.specs.Bytes.{is_byte}
use Rattle.name.specs.Split.{colon_at, has_colon, colon_of, prefix_of, local_at, local_of, second_at, second_of, colon_or, parts_of}
use Rattle.std.specs.Prelude.{Option, Some, None, MatchOption}
use Rattle.std.specs.Bool.{then_some}
use Rattle.name.specs.declared.Parts.{Parts}
use Rattle.scan.proofs.Laws.{IsFirst, first, first_only}

-- a colon at a place below the length
module _ (name : List ℕ) (at : ℕ) (e : at ≡ colon_at name) (h : at < length name) where
  pub has : has_colon name ≡ true
  unfolding has_colon
  has = rw (← e) (lt-ltb at (length name) h)

  pub colon_at_lem : Some at ≡ colon_of name
  unfolding colon_of
  colon_at_lem = rw (has, ← e)

  pub prefix_at : take at name ≡ prefix_of name
  unfolding prefix_of
  prefix_at = rw (has, ← e)

  pub local_place : at + 1 ≡ local_at name
  unfolding local_at
  local_place = rw (has, ← e)

  pub local_at_lem : drop (at + 1) name ≡ local_of name
  unfolding local_of
  local_at_lem = rw (← local_place)

  pub parts_at : ◌≡◌ {A = Parts} (record { colon = Some at; local = at + 1 }) (parts_of name)
  unfolding parts_of
  parts_at = rw (← colon_at_lem, ← local_place)

-- none
module _ (name : List ℕ) (at : ℕ) (e : at ≡ colon_at name) (h : length name ≤ at) where
  pub has_none : has_colon name ≡ false
  unfolding has_colon
  has_none = rw (← e) (le-ltb at (length name) h)

  pub colon_nowhere : None ≡ colon_of name
  unfolding colon_of
  colon_nowhere = rw has_none

  pub prefix_none : [] ≡ prefix_of name
  unfolding prefix_of
  prefix_none = rw has_none

  local_whole : 0 ≡ local_at name
  unfolding local_at
  local_whole = rw has_none

  pub local_none : name ≡ local_of name
  unfolding local_of
  local_none = rw (← local_whole)

  pub second_whole : second_at name ≡ colon_at name
  unfolding second_at colon_at
  second_whole = rw (← local_whole)

  pub parts_none : ◌≡◌ {A = Parts} (record { colon = None; local = 0 }) (parts_of name)
  unfolding parts_of
  parts_none = rw (← colon_nowhere, ← local_whole)

-- the second place of a colon is that of the first one in the local part
pub second_place : (name : List ℕ) → second_in (is_byte 58) name ≡ second_at name
unfolding second_in second_at local_at has_colon colon_at
second_place name = by (ltb (first_from (is_byte 58) name 0) (length name)) refl where
  by : (t : Bool) → ltb (first_from (is_byte 58) name 0) (length name) ≡ t → pick t (first_from (is_byte 58) name (first_from (is_byte 58) name 0 + 1)) (length name) ≡ first_from (is_byte 58) name (pick t (first_from (is_byte 58) name 0 + 1) 0)
  by true h = refl
  by false h =
      let i = (first (is_byte 58) name 0 (omega arith)).inside in
      let o = ltb-false (first_from (is_byte 58) name 0) (length name) h in
      omega arith

-- what the code makes of a place that it found
some_where : (t : Bool) (at : ℕ) → then_some t at ≡ pick t (Some at) None
some_where true at = refl
some_where false at = refl

pub first_told : (name : List ℕ) → then_some (ltb (colon_at name) (length name)) (colon_at name) ≡ colon_of name
unfolding colon_of has_colon
first_told name = some_where (ltb (colon_at name) (length name)) (colon_at name)

pub second_told : (name : List ℕ) → then_some (ltb (second_at name) (length name)) (second_at name) ≡ second_of name
unfolding second_of
second_told name = some_where (ltb (second_at name) (length name)) (second_at name)

-- what `colon_at` is: the first place of a colon
pub colon_first : (name : List ℕ) → IsFirst (λ j. is_byte 58 (get_or name j 0)) 0 (length name) (colon_at name)
unfolding colon_at
colon_first name = first (is_byte 58) name 0 (omega arith)

pub colon_inside : (name : List ℕ) → has_colon name ≡ true → colon_at name < length name
unfolding has_colon
colon_inside name = ltb-true (colon_at name) (length name)

pub colon_outside : (name : List ℕ) → has_colon name ≡ false → length name ≤ colon_at name
unfolding has_colon
colon_outside name = ltb-false (colon_at name) (length name)

-- what an answer says
pub colon_there : (name : List ℕ) (at : ℕ) → Some at ≡ colon_of name → (at ≡ colon_at name) × (at < length name)
unfolding colon_of
colon_there name at e = by (has_colon name) refl e where
  by : (t : Bool) → has_colon name ≡ t → Some at ≡ pick t (Some (colon_at name)) None → (at ≡ colon_at name) × (at < length name)
  by true h q =
      let s : at ≡ colon_at name = cc in
      (s, rw s (colon_inside name h))
  by false h q = cc

pub colon_missing : (name : List ℕ) → None ≡ colon_of name → length name ≤ colon_at name
unfolding colon_of
colon_missing name e = by (has_colon name) refl e where
  by : (t : Bool) → has_colon name ≡ t → None ≡ pick t (Some (colon_at name)) None → length name ≤ colon_at name
  by true h q = cc
  by false h q = colon_outside name h

-- both parts, by what the code asks of the first colon
pub parts_told : (name : List ℕ) (colon : Option ℕ) (local : ℕ) → colon ≡ colon_of name → MatchOption colon (local ≡ 0) (λ at. local ≡ at + 1) → ◌≡◌ {A = Parts} (record { colon = colon; local = local }) (parts_of name)
parts_told name (Some at) local e h =
    let t = colon_there name at e in
    rw h (parts_at name at t.0 t.1)
parts_told name None local e h = rw h (parts_none name (colon_at name) refl (colon_missing name e))

-- no byte of a name without a colon is one
pub no_colon : (name : List ℕ) → has_colon name ≡ false → (k : ℕ) → k < length name → is_byte 58 (get_or name k 0) ≡ false
no_colon name h k l = (colon_first name).before k (omega arith) (omega (arith, colon_outside name h))

-- a name in which no byte is a colon has none
pub colon_free : (name : List ℕ) → ((k : ℕ) → k < length name → is_byte 58 (get_or name k 0) ≡ false) → has_colon name ≡ false
colon_free name none = by (has_colon name) refl where
  by : (t : Bool) → has_colon name ≡ t → has_colon name ≡ false
  by true e = absurd (true≢false (sym ((colon_first name).found (colon_inside name e)) ∙ none (colon_at name) (colon_inside name e)))
  by false e = e

-- The parts put together give the name back.
pub split_joins : (name : List ℕ) → has_colon name ≡ true → name ≡ prefix_of name ++ 58 ∷ local_of name
unfolding is_byte
split_joins name h =
    let l = colon_inside name h in
    let c : get_or name (colon_at name) 0 ≡ 58 = eqb-true (get_or name (colon_at name) 0) 58 ((colon_first name).found l) in
    let s = split_at name (colon_at name) 0 l in
    let p = prefix_at name (colon_at name) refl l in
    let r = rw add-one at (local_at_lem name (colon_at name) refl l) in
    s ∙ rw (c, p, r)

-- A name with no colon is its own local part.
pub split_whole : (name : List ℕ) → has_colon name ≡ false → name ≡ local_of name
split_whole name h = local_none name (colon_at name) refl (colon_outside name h)

-- A prefix has no colon.
pub prefix_colon_free : (name : List ℕ) → has_colon (prefix_of name) ≡ false
prefix_colon_free name = by (has_colon name) refl where
  by : (t : Bool) → has_colon name ≡ t → has_colon (prefix_of name) ≡ false
  by true e =
      let l = colon_inside name e in
      let q : length (take (colon_at name) name) ≡ colon_at name = length-take-le (colon_at name) name (omega arith) in
      rw (← prefix_at name (colon_at name) refl l)
      (colon_free (take (colon_at name) name)
      (λ k h.
      let b : k < colon_at name = omega arith in
      rw (get_or-take (colon_at name) name k 0 b) ((colon_first name).before k (omega arith) b)))
  by false e = rw (← prefix_none name (colon_at name) refl (colon_outside name e)) (colon_free [] (λ k h. absurd (omega arith)))

-- A prefix without a colon, a colon and any local part make a name that splits into just these.
module _ (prefix rest : List ℕ) (free : has_colon prefix ≡ false) where
  longer : length prefix < length (prefix ++ 58 ∷ rest)
  longer = simp length-append (omega arith)

  pub colon_of_joined : length prefix ≡ colon_at (prefix ++ 58 ∷ rest)
  unfolding is_byte
  colon_of_joined =
      first_only (λ j. is_byte 58 (get_or (prefix ++ 58 ∷ rest) j 0)) 0 (length (prefix ++ 58 ∷ rest)) (length prefix) (colon_at (prefix ++ 58 ∷ rest))
      (record {
        ahead = omega arith;
        inside = omega (arith, longer);
        found = λ h. rw (get_or-append_seam prefix 58 rest 0);
        before = λ k lo hi. rw (get_or-append prefix (58 ∷ rest) 0 k hi) (no_colon prefix free k hi);
      })
      (colon_first (prefix ++ 58 ∷ rest))

  pub prefix_of_joined : prefix_of (prefix ++ 58 ∷ rest) ≡ prefix
  prefix_of_joined = sym (prefix_at (prefix ++ 58 ∷ rest) (length prefix) colon_of_joined longer) ∙ take-append_seam prefix (58 ∷ rest)

  pub local_of_joined : local_of (prefix ++ 58 ∷ rest) ≡ rest
  local_of_joined = sym (local_at_lem (prefix ++ 58 ∷ rest) (length prefix) colon_of_joined longer) ∙ drop-append-add prefix (58 ∷ rest) 1

-- by one number, the length where there is none, a second colon is its place
second_inside : (name : List ℕ) → second_at name ≤ length name
unfolding second_at
second_inside name = (first (is_byte 58) name (local_at name) (by (has_colon name) refl)).inside where
  by : (t : Bool) → has_colon name ≡ t → local_at name ≤ length name
  by true h =
      let l = colon_inside name h in
      rw (← local_place name (colon_at name) refl l) (omega arith)
  by false h = rw (← local_whole name (colon_at name) refl (colon_outside name h)) (omega arith)

pub second_number_lem : (name : List ℕ) → colon_or (length name) (second_of name) ≡ second_at name
unfolding second_of colon_or
second_number_lem name = by (ltb (second_at name) (length name)) refl where
  by : (t : Bool) → ltb (second_at name) (length name) ≡ t → colon_or (length name) (pick t (Some (second_at name)) None) ≡ second_at name
  by true h = refl
  by false h =
      let i = second_inside name in
      let o = ltb-false (second_at name) (length name) h in
      omega arith
