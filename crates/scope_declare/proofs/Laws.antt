-- What a declaration leaves, in two ways: the resolver as it was, or one binding more that there is room for. All that is
-- said of a declaration goes by these two. On lent memory it is kept as it is, or goes to `append_in` as it was judged.
use Prim.Native.Nat.{ℕ, ◌+◌, ◌-◌, ◌≤◌, ◌<◌}
use mathlib.Core.Path.{◌≡◌, refl, ap, ◌∙◌}
use mathlib.Core.Bool.{Bool, true, false}
use mathlib.Core.List.{List, ◌++◌}
use native.Mathlib.Omega.{arith}
use lib.Dec.{leb, ltb}
use lib.ListN.{length, take, length-append, length-take, length-replicate}
use Rattle.std.specs.Prelude.{Ok, Err, Option, Some, None, Result}
use Rattle.scan.specs.First.{pick}
use Rattle.scan.proofs.Laws.{picks}
use Rattle.scan.proofs.Lists.{over_length}
use Rattle.name.specs.Bind.{reserved_bind}
use Rattle.name.specs.declared.PrefixDeclaration.{PrefixDeclaration}
use Rattle.name.specs.declared.PrefixDeclaration.TheVariants.{Default, Named}
use Rattle.name.specs.declared.ReservedBinding.{ReservedBinding}
use Rattle.name.specs.declared.ReservedBinding.TheVariants as Check
use Rattle.scope_table.specs.Records.{row_at, row_of, binding_of}
use Rattle.scope_table.specs.Lists.{cut}
use Rattle.scope_table.specs.Table.{TEXT, RECORDS, NUMBERS, resolver_of, valid_of}
use Rattle.scope_table.specs.Answer.{is_done, changed, NamespaceResult}
use Rattle.scope_table.specs.Lent.{fits_of, Given, given, lent_of}
use Rattle.scope_table.specs.declared.Head.{Head}
use Rattle.scope_table.specs.declared.NamespaceBinding.{NamespaceBinding}
use Rattle.scope_table.specs.declared.NamespaceResolver.{NamespaceResolver}
use Rattle.scope_table.specs.declared.Changed.{Changed}
use Rattle.scope_table.specs.declared.NamespaceError.{NamespaceError}
use Rattle.scope_table.specs.declared.NamespaceError.TheVariants.{InvalidXmlPrefixBind, InvalidXmlnsPrefixBind, InvalidPrefixForXml, InvalidPrefixForXmlns, TooManyBindings, TooDeeplyNested, BindingTableFull, TextFull, BadResolver, LendMore, WrongLength}
use Rattle.scope_table.proofs.Rows.{rows_full, row_fits}
use Rattle.scope_table.proofs.Calls.{unchanged, same_call}
use Rattle.scope_table.proofs.Full.{full_is}
use Rattle.scope_change.specs.Change.{bound_of, refusal_of, append_of, kept_of, dropped_of, level_of, whole}
use Rattle.scope_change.specs.declared.Room.{Room}
use Rattle.scope_change.proofs.Change.{room_has}
use Rattle.scope_declare.specs.Declare.{Judged, wholly, named_of, judge_of, settle_of, declare_of, add_of, pop_of}
use Rattle.scope_declare.specs.declared.Places.{Places}

-- What is judged.

abbrev size : Judged → ℕ
size (Err e) = 0
size (Ok None) = 0
size (Ok (Some n)) = n

named_fits : (k : Result Bool ReservedBinding) (p : List ℕ) (at : Places) → size (named_of k p at) ≤ length p
unfolding named_of
named_fits (Ok true) p at = omega arith
named_fits (Ok false) p at = omega arith
named_fits (Err Check.InvalidXmlPrefixBind) p at = omega arith
named_fits (Err Check.InvalidXmlnsPrefixBind) p at = omega arith
named_fits (Err Check.InvalidPrefixForXml) p at = omega arith
named_fits (Err Check.InvalidPrefixForXmlns) p at = omega arith

size_fits : (d : Option PrefixDeclaration) (p v : List ℕ) (at : Places) → size (judge_of d p v at) ≤ length p
unfolding judge_of
size_fits None p v at = omega arith
size_fits (Some Default) p v at = omega arith
size_fits (Some Named) p v at = named_fits (reserved_bind p v) p at

-- what is to be bound is no longer than the prefix that was given
pub bind_fits : (d : Option PrefixDeclaration) (p v : List ℕ) (at : Places) (n : ℕ) → judge_of d p v at ≡ Ok (Some n) → n ≤ length p
bind_fits d p v at n e =
    let s = size_fits d p v at in
    let q : size (judge_of d p v at) ≡ n = ap size e in
    omega arith

-- the answer of lent memory that is no rule's
abbrev pub is_more : NamespaceResult → Bool
is_more (Ok tt) = false
is_more (Err (InvalidXmlPrefixBind a e)) = false
is_more (Err (InvalidXmlnsPrefixBind a e)) = false
is_more (Err (InvalidPrefixForXml a e)) = false
is_more (Err (InvalidPrefixForXmlns a e)) = false
is_more (Err (TooManyBindings limit)) = false
is_more (Err (TooDeeplyNested depth)) = false
is_more (Err BindingTableFull) = false
is_more (Err TextFull) = false
is_more (Err BadResolver) = false
is_more (Err LendMore) = true
is_more (Err WrongLength) = false

-- what is judged is no such answer
abbrev keeps_more : Judged → Bool
keeps_more (Err e) = is_more (Err e)
keeps_more (Ok bound) = false

named_never : (k : Result Bool ReservedBinding) (p : List ℕ) (at : Places) → keeps_more (named_of k p at) ≡ false
unfolding named_of
named_never (Ok true) p at = refl
named_never (Ok false) p at = refl
named_never (Err Check.InvalidXmlPrefixBind) p at = refl
named_never (Err Check.InvalidXmlnsPrefixBind) p at = refl
named_never (Err Check.InvalidPrefixForXml) p at = refl
named_never (Err Check.InvalidPrefixForXmlns) p at = refl

judge_never : (d : Option PrefixDeclaration) (p v : List ℕ) (at : Places) → keeps_more (judge_of d p v at) ≡ false
unfolding judge_of
judge_never None p v at = refl
judge_never (Some Default) p v at = refl
judge_never (Some Named) p v at = named_never (reserved_bind p v) p at

refusal_by : (limit : ℕ) (t₁ t₂ t₃ : Bool) → is_more (pick t₁ (Err (TooManyBindings limit)) (pick t₂ (Err BindingTableFull) (pick t₃ (Err TextFull) (Ok tt)))) ≡ false
refusal_by limit true t₂ t₃ = refl
refusal_by limit false true t₃ = refl
refusal_by limit false false true = refl
refusal_by limit false false false = refl

-- nor is 16, 18, 19
refusal_never : (room : Room) (head : Head) (n : ℕ) → is_more (refusal_of room head n) ≡ false
unfolding refusal_of
refusal_never room head n = refusal_by head.limit (leb head.limit (head.count - 2)) (leb room.records head.count) (ltb room.bytes (head.used + n))

-- The two ways.

module _ (room : Room) (x : NamespaceResolver) (P : Changed → Type 0)
    (keeps : (a : NamespaceResult) → is_more a ≡ false → P (changed a x))
    (binds : (p v : List ℕ) → (x.head.count < room.records) → (x.head.used + (length p + length v) ≤ room.bytes) → P (changed (Ok tt) (bound_of p v x))) where
  append_ways : (p v : List ℕ) (t : Bool) → is_done (refusal_of room x.head (length p + length v)) ≡ t → P (append_of room p v x)
  unfolding append_of
  append_ways p v true e =
      let h = room_has room x.head (length p + length v) e in
      rw e (binds p v h.0 h.1)
  append_ways p v false e = rw e (keeps (refusal_of room x.head (length p + length v)) (refusal_never room x.head (length p + length v)))

  settle_ways : (j : Judged) (p v : List ℕ) → keeps_more j ≡ false → P (settle_of room j p v x)
  unfolding settle_of
  settle_ways (Err a) p v e = keeps (Err a) e
  settle_ways (Ok None) p v e = keeps (Ok tt) refl
  settle_ways (Ok (Some n)) p v e = append_ways (take n p) v (is_done (refusal_of room x.head (length (take n p) + length v))) refl

  pub declare_ways : (d : Option PrefixDeclaration) (p v : List ℕ) (at : Places) → P (declare_of room d p v at x)
  unfolding declare_of
  declare_ways d p v at = settle_ways (judge_of d p v at) p v (judge_never d p v at)

-- The arrays keep their sizes.

pub record FullSize (x : NamespaceResolver) : Type 0 where
  pub text : length x.text ≡ TEXT
  pub records : length x.records ≡ NUMBERS

pub declare_sized : (room : Room) (d : Option PrefixDeclaration) (p v : List ℕ) (at : Places) (x : NamespaceResolver) → room.records ≤ RECORDS → room.bytes ≤ TEXT → FullSize x → FullSize (declare_of room d p v at x).resolver
unfolding bound_of
declare_sized room d p v at x few small s =
    let new : (p v : List ℕ) → NamespaceBinding = λ p v. binding_of x.head.used (length p) (length v) x.head.level in
    declare_ways room x (λ c. FullSize c.resolver) (λ a e. s)
    (λ p v h k. record {
      text = over_length x.text x.head.used (p ++ v) (omega (arith, s.text, length-append p v)) ∙ s.text;
      records = over_length x.records (row_at x.head.count) (row_of (new p v)) (row_fits x.head.count (length x.records) (new p v) (rows_full x.records (x.head.count + 1) s.records (omega arith))) ∙ s.records;
    })
    d p v at

pub add_sized : (d : Option PrefixDeclaration) (p v : List ℕ) (x : NamespaceResolver) → FullSize x → FullSize (add_of d p v x).resolver
unfolding add_of
add_sized d p v x s =
    picks (λ (c : Changed). FullSize c.resolver) (valid_of x)
    (λ e. declare_sized whole d p v (wholly p v) x (omega arith) (omega arith) s)
    (λ e. s)

cut_keeps : (t : List ℕ) (n : ℕ) → length (cut t n) ≡ length t
unfolding cut
cut_keeps t n = simp (length-append, length-take, length-replicate) (omega arith)

pub level_sized : (to : ℕ) (x : NamespaceResolver) → FullSize x → FullSize (level_of to x).resolver
unfolding level_of dropped_of kept_of
level_sized to x s =
    picks (λ (c : Changed). FullSize c.resolver) (valid_of x)
    (λ e. record { text = cut_keeps x.text _ ∙ s.text; records = cut_keeps x.records _ ∙ s.records })
    (λ e. s)

pub pop_sized : (x : NamespaceResolver) → FullSize x → FullSize (pop_of x).resolver
unfolding pop_of
pop_sized x s = level_sized (x.head.level - 1) x s

-- A call by value lends memory of full size, which is the resolver: what is put together is what the call makes of it.
pub by_value : (f : NamespaceResolver → Changed) (x : NamespaceResolver) → FullSize x → FullSize (f x).resolver → (a : NamespaceResult) (text records : List ℕ) (head : Head) → given a text records head ≡ lent_of f x.text x.records x.head → changed a (resolver_of text records head) ≡ f x
by_value f x s z a text records head e =
    ap (λ (g : Given). changed g.answer (resolver_of g.text g.records g.head))
    (e ∙ full_is x.text x.records x.head s.text s.records f z.text z.records)

-- On lent memory.
module _ (room : Room) (d : Option PrefixDeclaration) (p v : List ℕ) (at : Places) (text records : List ℕ) (head : Head) where
  -- what leaves the resolver leaves the memory
  pub declare_keeps : (a : NamespaceResult) → fits_of (length text) (length records) head.used head.count ≡ true → ((x : NamespaceResolver) → declare_of room d p v at x ≡ changed a x) → given a text records head ≡ lent_of (declare_of room d p v at) text records head
  declare_keeps a fit e = unchanged text records head fit (declare_of room d p v at) a (e _)

  pub declare_refuses : (error : NamespaceError) → fits_of (length text) (length records) head.used head.count ≡ true → judge_of d p v at ≡ Err error → given (Err error) text records head ≡ lent_of (declare_of room d p v at) text records head
  unfolding declare_of settle_of
  declare_refuses error fit e = declare_keeps (Err error) fit (λ x. rw e)

  pub declare_nothing : fits_of (length text) (length records) head.used head.count ≡ true → judge_of d p v at ≡ Ok None → given (Ok tt) text records head ≡ lent_of (declare_of room d p v at) text records head
  unfolding declare_of settle_of
  declare_nothing fit e = declare_keeps (Ok tt) fit (λ x. rw e)

  -- what is to be bound is appended
  pub declare_binds : (n : ℕ) → judge_of d p v at ≡ Ok (Some n) → lent_of (append_of room (take n p) v) text records head ≡ lent_of (declare_of room d p v at) text records head
  unfolding declare_of settle_of
  declare_binds n e = same_call text records head (append_of room (take n p) v) (declare_of room d p v at) (rw e)
