-- A resolver as the list of its bindings, the newest first: the fresh one, what a binding and a level leave, and that a
-- lookup takes the first of the list.
use Prim.Native.Nat.{ℕ, suc, ◌≤◌, ◌<◌}
use mathlib.Core.Path.{◌≡◌, refl, sym, ap, ◌∙◌}
use mathlib.Core.Bool.{Bool, true, false}
use mathlib.Core.List.{List, [], ◌∷◌}
use native.Mathlib.Numerals.{add-one}
use native.Mathlib.Omega.{arith}
use lib.Dec.{eqb}
use lib.ListN.{length}
use borrow.Author.Tests.{ne_eqb}
use Rattle.scan.specs.First.{pick}
use Rattle.scan.proofs.Bytes.{inside_part}
use Rattle.scan.specs.Bytes.{inside, same_bytes}
use Rattle.name.specs.Reserved.{xml_prefix, xmlns_prefix, xml_uri, xmlns_uri}
use Rattle.name.specs.Verdict.{is_empty}
use Rattle.scope_table.specs.Records.{record_at, value_start, value_end, prefix_in, value_in}
use Rattle.scope_table.specs.Table.{DEEPEST, fresh_of}
use Rattle.scope_table.specs.declared.NamespaceBinding.{NamespaceBinding}
use Rattle.scope_table.specs.declared.NamespaceResolver.{NamespaceResolver}
use Rattle.scope_change.specs.Change.{bound_of}
use Rattle.scope_declare.specs.Declare.{limited_of}
use Rattle.scope_push.specs.Push.{raised_of}
use Rattle.scope_table.specs.Lists.{last_below}
use Rattle.scope_table.proofs.Good.{Shaped, form_of_lem}
use Rattle.scope_lookup.specs.Lookup.{has_prefix, is_default, value_or, uri_part}
use Rattle.std.specs.Prelude.{Ok}
use Rattle.scope_lookup.specs.declared.ResolveResult.{ResolveResult}
use Rattle.scope_lookup.specs.declared.ResolveResult.TheVariants.{Bound}
use Rattle.law_scopes.specs.Scopes.{Made, made}
use Rattle.law_scopes.specs.Made.{made_of, made_at}
use Rattle.law_scopes.specs.Promises.{Proper, BuiltInsStand}
use Rattle.law_scopes.proofs.Bound.{Takes}
use Rattle.law_scopes.proofs.Valid.{bound_proper, raised_proper, limited_proper, fresh_proper}
use Rattle.law_scopes.proofs.Made.{record_ends, bound_old, bound_new, prefix_length, value_length}
use Rattle.law_scopes.proofs.BuiltIn.{built_ins_stand}
use Rattle.law_rows.specs.Seen.{Seen, bound, handed_back}
use Rattle.law_chain.specs.Chain.{Stated, gives, nowhere}

-- The records of a table, from the last to the first.
unfoldable pub SaysAll : NamespaceResolver → List Made → Type 0
SaysAll x [] = Unit {0}
SaysAll x (b ∷ bs) = (made_at x (length bs) ≡ b) × SaysAll x bs

pub record Holds (x : NamespaceResolver) (bs : List Made) : Type 0 where
  pub proper : Proper x
  pub count : x.head.count ≡ length bs
  pub says : SaysAll x bs

-- a table whose first n records say the same
says_same : (x y : NamespaceResolver) (n : ℕ) → ((i : ℕ) → i < n → made_at y i ≡ made_at x i) → (bs : List Made) → length bs ≤ n → SaysAll x bs → SaysAll y bs
unfolding SaysAll
says_same x y n same [] h s = tt
says_same x y n same (b ∷ bs) h s = (same (length bs) (omega arith) ∙ s.0, says_same x y n same bs (omega arith) s.1)

-- The fresh resolver holds the built-ins.

unfoldable pub built_ins : List Made
built_ins = made xmlns_prefix xmlns_uri 0 ∷ made xml_prefix xml_uri 0 ∷ []

pub fresh_holds : Holds fresh_of built_ins
unfolding built_ins SaysAll fresh_of BuiltInsStand
fresh_holds =
    let b = built_ins_stand fresh_of fresh_proper in
    record { proper = fresh_proper; count = refl; says = (b.1, (b.0, tt)) }

-- A binding that goes in is the first of the list.
pub bound_holds : (x : NamespaceResolver) (bs : List Made) (p v : List ℕ) → Holds x bs → Takes x p v → Holds (bound_of p v x) (made p v x.head.level ∷ bs)
unfolding SaysAll bound_of
bound_holds x bs p v h room =
    let s = h.proper.sized in
    let f = form_of_lem x h.proper.valid in
    record {
      proper = bound_proper x p v room h.proper;
      count = add-one x.head.count ∙ ap suc h.count;
      says = (
        ap (made_at (bound_of p v x)) (sym h.count) ∙ bound_new x s p v room f,
        says_same x (bound_of p v x) x.head.count (bound_old x s p v room f) bs (omega (arith, h.count)) h.says,
      );
    }

-- A level that is higher, or another limit, says nothing new.

pub raised_holds : (x : NamespaceResolver) (bs : List Made) → x.head.level < DEEPEST → Holds x bs → Holds (raised_of x) bs
unfolding raised_of made_at
raised_holds x bs d h =
    record {
      proper = raised_proper x d h.proper;
      count = h.count;
      says = says_same x (raised_of x) x.head.count (λ i l. refl) bs (omega (arith, h.count)) h.says;
    }

pub limited_holds : (x : NamespaceResolver) (bs : List Made) (limit : ℕ) → Holds x bs → Holds (limited_of limit x) bs
unfolding limited_of made_at
limited_holds x bs limit h =
    record {
      proper = limited_proper x limit h.proper;
      count = h.count;
      says = says_same x (limited_of limit x) x.head.count (λ i l. refl) bs (omega (arith, h.count)) h.says;
    }

-- Lookups.

-- the value that the newest binding of a prefix has
unfoldable pub newest : List ℕ → List Made → Stated
newest q [] = nowhere
newest q (b ∷ bs) = pick (same_bytes b.prefix q) (gives b.value) (newest q bs)

-- what is seen of it; an empty value is as good as none
unfoldable pub seen_by : Seen → Stated → Seen
seen_by other (gives v) = pick (is_empty v) other (bound v)
seen_by other nowhere = other

empty_same : (p : List ℕ) → eqb (length p) 0 ≡ same_bytes p []
unfolding same_bytes
empty_same [] = refl
empty_same (c ∷ p) = ne_eqb (suc (length p)) 0 (λ e. omega arith)

module _ (x : NamespaceResolver) (g : Proper x) where
  abbrev rows : ℕ → NamespaceBinding
  rows = record_at x.records

  f : Shaped x
  f = form_of_lem x g.valid

  value_inside : (i : ℕ) → i < x.head.count → inside x.text (value_start (rows i)) (value_end (rows i)) ≡ (made_at x i).value
  unfolding made_at made_of value_in
  value_inside i h =
      inside_part x.text (value_start (rows i)) (value_end (rows i)) (omega arith)
      (omega (arith, record_ends x f i x.head.count h (omega arith), f.ends, f.small, g.sized.text))

  value_size : (i : ℕ) → i < x.head.count → (rows i).value_len ≡ length (made_at x i).value
  unfolding made_at made_of
  value_size i h = sym (value_length x g.sized f i h)

  -- A test of a record's prefix is one of what the record says.
  unfoldable pub Tests : (ℕ → Bool) → List ℕ → Type 0
  Tests test q = (i : ℕ) → i < x.head.count → test i ≡ same_bytes (made_at x i).prefix q

  pub prefix_test : (q : List ℕ) → Tests (λ i. has_prefix x.text q (rows i)) q
  unfolding Tests has_prefix made_at made_of
  prefix_test q i h = refl

  pub default_test : Tests (λ i. is_default (rows i)) []
  unfolding Tests is_default made_at made_of
  default_test i h = ap (λ (n : ℕ). eqb n 0) (sym (prefix_length x g.sized f i h)) ∙ empty_same (prefix_in x.text (rows i))

  module _ (name : List ℕ) (other : ResolveResult) where
    abbrev seen : ResolveResult → Seen
    seen found = handed_back x name (Ok found)

    pick_seen : (t : Bool) (a e : ℕ) → seen (pick t other (Bound a e)) ≡ pick t (seen other) (bound (inside x.text a e))
    unfolding handed_back uri_part
    pick_seen true a e = refl
    pick_seen false a e = refl

    -- what record i gives
    record_seen : (i : ℕ) (b : Made) → i < x.head.count → made_at x i ≡ b →
        seen (pick (eqb (rows i).value_len 0) other (Bound (value_start (rows i)) (value_end (rows i)))) ≡ seen_by (seen other) (gives b.value)
    unfolding seen_by is_empty
    record_seen i b h e =
        pick_seen (eqb (rows i).value_len 0) (value_start (rows i)) (value_end (rows i))
        ∙ ap (λ (n : ℕ). pick (eqb n 0) (seen other) (bound (inside x.text (value_start (rows i)) (value_end (rows i))))) (value_size i h)
        ∙ ap (λ (v : List ℕ). pick (eqb (length (made_at x i).value) 0) (seen other) (bound v)) (value_inside i h)
        ∙ ap (λ (m : Made). pick (eqb (length m.value) 0) (seen other) (bound m.value)) e

    -- The last record that passes a test of its prefix is the newest binding.
    pub last_seen : (test : ℕ → Bool) (q : List ℕ) → Tests test q → (bs : List Made) → length bs ≤ x.head.count → SaysAll x bs → seen (value_or rows other (last_below test (length bs))) ≡ seen_by (seen other) (newest q bs)
    unfolding SaysAll Tests last_below value_or newest seen_by
    last_seen test q t [] h s = refl
    last_seen test q t (b ∷ bs) h s =
        rw (t (length bs) (omega arith) ∙ ap (λ (m : Made). same_bytes m.prefix q) s.0) (by (last_seen test q t bs (omega arith) s.1) (same_bytes b.prefix q)) where
          by : seen (value_or rows other (last_below test (length bs))) ≡ seen_by (seen other) (newest q bs) → (c : Bool) → seen (value_or rows other (pick c (suc (length bs)) (last_below test (length bs)))) ≡ seen_by (seen other) (pick c (gives b.value) (newest q bs))
          by later true = record_seen (length bs) b (omega arith) s.0
          by later false = later
