-- What a refused `push` holds is marked in its tag: the keys and values of the iterator's answers lie in the tag, the prefix is
-- the end of its key, and so each declaration stands at its places.
use Prim.Native.Nat.{ℕ, zero, suc, ◌+◌, ◌-◌, ◌≤◌}
use mathlib.Core.Path.{◌≡◌, refl, sym, ap, subst, ◌∙◌}
use mathlib.Core.Bool.{Bool, true, false, false≢true}
use mathlib.Core.List.{List, [], ◌∷◌}
use native.Mathlib.Omega.{arith}
use lib.Dec.{eqb, leb}
use lib.ListN.{length, take, drop, get_or, length-drop}
use lib.Seq.{drop-drop}
use borrow.Author.Tests.{leb-true, leb-false}
use Rattle.std.proofs.Common.{Result, Ok, Err, Option, Some, None}
use Rattle.scan.specs.First.{first_from}
use Rattle.scan.specs.Bytes.{part, is_byte, not_space, Marks}
use Rattle.scan.proofs.Bytes.{inside_part}
use Rattle.scan.proofs.Laws.{first, picks}
use Rattle.scan.proofs.Lists.{part_is, part_length}
use Rattle.name.specs.Bind.{reserved_bind, refused_text}
use Rattle.name.specs.Declares.{opening, is_named, declared_prefix}
use Rattle.name.specs.declared.PrefixDeclaration.{PrefixDeclaration}
use Rattle.name.specs.declared.PrefixDeclaration.TheVariants.{Default, Named}
use Rattle.name.specs.declared.ReservedBinding.{ReservedBinding}
use Rattle.name.specs.declared.ReservedBinding.TheVariants as Check
use Rattle.tag_keys.specs.declared.KeyRefusal.{KeyRefusal}
use Rattle.tag_keys.specs.declared.KeyRefusal.TheVariants.{Same, Full}
use Rattle.tag_step.specs.declared.Span.{Span}
use Rattle.tag_step.specs.Answer.{Answer}
use Rattle.tag_step.specs.declared.Attr.TheVariants.{DoubleQ, SingleQ, Unquoted, Empty}
use Rattle.tag_step.specs.declared.Found.{Found}
use Rattle.tag_step.specs.Read.{span, recover_of, quoted, closed_of, value_at}
use Rattle.tag_step.specs.Next.{Keys, Reading, bare_by, bare_to, valued_by, valued_to, read_at, no_keys}
use Rattle.tag_step.specs.Run.{is_end, cons_unless, run_from, answers_from}
use Rattle.tag_step.proofs.Whole.{StartIn, recover_in}
use Rattle.tag_step.proofs.Ways.{value_ways, step_ways}
use Rattle.tag_step.proofs.Run.{opened_answers}
use Rattle.tag_parts.specs.Parts.{key_part, value_part}
use Rattle.scope_table.specs.Table.{DEEPEST, valid_of}
use Rattle.scope_table.specs.Answer.{is_done}
use Rattle.scope_table.specs.declared.NamespaceResolver.{NamespaceResolver}
use Rattle.scope_table.specs.declared.Changed.{Changed}
use Rattle.scope_change.specs.Change.{whole}
use Rattle.scope_change.specs.declared.Room.{Room}
use Rattle.scope_declare.specs.Declare.{named_of, judge_of, settle_of, declare_of}
use Rattle.scope_declare.specs.Texts.{HoldsText}
use Rattle.scope_declare.specs.declared.Places.{Places}
use Rattle.scope_declare.proofs.Texts.{append_none, declare_holds}
use Rattle.scope_push.specs.Push.{Declaration, declaration_of, declaration_then, declarations_of, tag_answers, tag_declarations, declare_one, then_of, declare_all, raised_of, push_of}
use Rattle.scope_push.specs.Texts.{refuses_named, check_by, refused_in}

-- The answers lie in the tag.

pub record SpanIn (s : List ℕ) (x : Span) : Type 0 where
  pub ahead : x.start ≤ x.end
  pub inside : x.end ≤ length s

abbrev In : List ℕ → Answer → Type 0
In s None = Unit {0}
In s (Some (Ok (DoubleQ k v))) = SpanIn s k × SpanIn s v
In s (Some (Ok (SingleQ k v))) = SpanIn s k × SpanIn s v
In s (Some (Ok (Unquoted k v))) = Unit {0}
In s (Some (Ok (Empty k))) = Unit {0}
In s (Some (Err e)) = Unit {0}

closed_in : (s : List ℕ) (q : ℕ) (k v : Span) → SpanIn s k → SpanIn s v → In s (closed_of q k v).answer
unfolding closed_of quoted
closed_in s q k v a b = picks (In s) (eqb q 34) (λ e. (a, b)) (λ e. (a, b))

value_in_lem : (s : List ℕ) (html : Bool) (key : Span) (eq : ℕ) → SpanIn s key → In s (value_at s html key eq).answer
value_in_lem s html key eq k =
    value_ways s html key eq (first_from not_space s (eq + 1)) refl (λ (x : Found) (n : ℕ). In s x.answer)
    (λ h. tt)
    (λ e h q f l.
    let v = first_from not_space s (eq + 1) in
    let w = first (is_byte (get_or s v 0)) s (v + 1) (omega arith) in
    closed_in s (get_or s v 0) key (span (v + 1) e) k (record { ahead = omega (arith, w.ahead, f); inside = omega arith }))
    (λ e h q f l. tt)
    (λ e h q m f. tt)
    (λ h q m. tt)

valued_in_lem : (s : List ℕ) (html : Bool) (key : Span) (eq : ℕ) (c : Result ℕ KeyRefusal) → SpanIn s key → In s (valued_by s html key eq c).answer
unfolding valued_by
valued_in_lem s html key eq (Ok n) k = value_in_lem s html key eq k
valued_in_lem s html key eq (Err (Same earlier)) k = tt
valued_in_lem s html key eq (Err Full) k = tt

bare_in_lem : (s : List ℕ) (key : Span) (at : ℕ) (c : Result ℕ KeyRefusal) → In s (bare_by s key at c).answer
unfolding bare_by
bare_in_lem s key at (Ok n) = tt
bare_in_lem s key at (Err (Same earlier)) = tt
bare_in_lem s key at (Err Full) = tt

read_in : (s : List ℕ) (html checks : Bool) (keys : Keys) (o : ℕ) → o ≤ length s → In s (read_at s html checks keys o).answer
unfolding bare_to valued_to
read_in s html checks keys o h =
    step_ways s html checks keys o h (λ (x : Reading) (n : ℕ). In s x.answer)
    (λ e. tt)
    (λ key at e i m. tt)
    (λ key at c e i m q. bare_in_lem s key at c)
    (λ key eq c e i t q. valued_in_lem s html key eq c (record { ahead = omega (arith, i.some); inside = omega (arith, i.ahead, i.inside) }))

abbrev AllIn : List ℕ → List Answer → Type 0
AllIn s [] = Unit {0}
AllIn s (a ∷ more) = In s a × AllIn s more

cons_in : (s : List ℕ) (t : Bool) (a : Answer) (more : List Answer) → In s a → AllIn s more → AllIn s (cons_unless t a more)
unfolding cons_unless
cons_in s true a more h k = tt
cons_in s false a more h k = (h, k)

run_in : (n : ℕ) (s : List ℕ) (html checks : Bool) (keys : Keys) (x : Option ℕ) → StartIn (length s) x → AllIn s (run_from n s html checks keys x)
unfolding run_from StartIn
run_in zero s html checks keys x h = tt
run_in (suc n) s html checks keys None h = tt
run_in (suc n) s html checks keys (Some o) h =
    let r = read_at s html checks keys o in
    cons_in s (is_end r.answer) r.answer _ (read_in s html checks keys o h) (run_in n s html checks r.keys (recover_of s r.place) (recover_in s r.place))

answers_in_lem : (s : List ℕ) (from : ℕ) → AllIn s (tag_answers s from)
unfolding tag_answers answers_from
answers_in_lem s from = subst (AllIn s) (sym (opened_answers s from false false)) (run_in (length s) s false false no_keys _ (recover_in s _))

-- Each declaration stands at its places.

nothing_is : (l : List ℕ) → length l ≡ 0 → l ≡ []
nothing_is [] e = refl
nothing_is (x ∷ xs) e = absurd (omega arith)

-- the end of a part, from its n-th byte on
end_part : (s : List ℕ) (a e n : ℕ) → a ≤ e → e ≤ length s → part s (e - ((e - a) - n)) e ≡ drop n (part s a e)
end_part s a e n h k = by (leb n (e - a)) refl where
  by : (t : Bool) → leb n (e - a) ≡ t → part s (e - ((e - a) - n)) e ≡ drop n (part s a e)
  by true q =
      let l = leb-true n (e - a) q in
      let m : e - ((e - a) - n) ≡ a + n = omega arith in
      rw m (part_is s (a + n) e (omega arith) ∙ sym (drop-drop n a (take e s)) ∙ ap (drop n) (sym (part_is s a e h)))
  by false q =
      let l = leb-false n (e - a) q in
      nothing_is (part s (e - ((e - a) - n)) e) (part_length s (e - ((e - a) - n)) e (omega arith) k ∙ omega arith)
      ∙ sym (nothing_is (drop n (part s a e)) (omega (arith, length-drop n (part s a e), part_length s a e h k)))

record Placed (s : List ℕ) (d : Declaration) : Type 0 where
  pub prefix : Marks s d.at.prefix_start d.at.prefix_end d.prefix
  pub value : Marks s d.at.value_start d.at.value_end d.value

-- the prefix is the end of its key
prefix_marks : (s key : List ℕ) (k : Span) → SpanIn s k → key ≡ part s k.start k.end → Marks s (k.end - length (declared_prefix key)) k.end (declared_prefix key)
unfolding declared_prefix
prefix_marks s key k i e =
    picks (λ (t : List ℕ). Marks s (k.end - length t) k.end t) (is_named key)
    (λ n.
    let n = length opening in
    let l : length key ≡ k.end - k.start = ap length e ∙ part_length s k.start k.end i.ahead i.inside in
    let m : length (drop n key) ≡ (k.end - k.start) - n = omega (arith, length-drop n key) in
    record { ahead = omega arith; inside = i.inside; between = rw m (end_part s k.start k.end n i.ahead i.inside ∙ ap (drop n) (sym e)) })
    (λ n. record { ahead = omega arith; inside = i.inside; between = nothing_is (part s (k.end - 0) k.end) (part_length s (k.end - 0) k.end (omega arith) i.inside ∙ omega arith) })

placed : (s key value : List ℕ) (k v : Span) → SpanIn s k → SpanIn s v → key ≡ part s k.start k.end → value ≡ part s v.start v.end → Placed s (declaration_of key value k v)
unfolding declaration_of
placed s key value k v i j e f =
    record { prefix = prefix_marks s key k i e; value = record { ahead = j.ahead; inside = j.inside; between = sym f } }

abbrev AllPlaced : List ℕ → List Declaration → Type 0
AllPlaced s [] = Unit {0}
AllPlaced s (d ∷ more) = Placed s d × AllPlaced s more

then_placed : (s : List ℕ) (a : Answer) (more : List Declaration) → In s a → AllPlaced s more → AllPlaced s (declaration_then s a more)
unfolding declaration_then key_part value_part
then_placed s (Some (Ok (DoubleQ k v))) more i p = (placed s _ _ k v i.0 i.1 (inside_part s k.start k.end i.0.ahead i.0.inside) (inside_part s v.start v.end i.1.ahead i.1.inside), p)
then_placed s (Some (Ok (SingleQ k v))) more i p = (placed s _ _ k v i.0 i.1 (inside_part s k.start k.end i.0.ahead i.0.inside) (inside_part s v.start v.end i.1.ahead i.1.inside), p)
then_placed s (Some (Ok (Unquoted k v))) more i p = tt
then_placed s (Some (Ok (Empty k))) more i p = tt
then_placed s None more i p = tt
then_placed s (Some (Err e)) more i p = tt

all_placed : (s : List ℕ) (answers : List Answer) → AllIn s answers → AllPlaced s (declarations_of s answers)
unfolding declarations_of
all_placed s [] i = tt
all_placed s (a ∷ more) i = then_placed s a (declarations_of s more) i.0 (all_placed s more i.1)

-- What is refused.

module _ (ps vs p v : List ℕ) (at : Places) (room : Room) (x : NamespaceResolver) where
  -- what the check passes holds no text
  named_free : (k : Result Bool ReservedBinding) (text : List ℕ) → refuses_named k ≡ false → HoldsText ps vs (settle_of room (named_of k p at) p v x).answer text
  unfolding named_of settle_of
  named_free (Ok true) text e = append_none ps vs text room x (take (length p) p) v
  named_free (Ok false) text e = tt
  named_free (Err Check.InvalidXmlPrefixBind) text e = absurd (false≢true (sym e))
  named_free (Err Check.InvalidXmlnsPrefixBind) text e = absurd (false≢true (sym e))
  named_free (Err Check.InvalidPrefixForXml) text e = absurd (false≢true (sym e))
  named_free (Err Check.InvalidPrefixForXmlns) text e = absurd (false≢true (sym e))

  declare_free : (d : Option PrefixDeclaration) (text : List ℕ) → refuses_named (check_by d p v) ≡ false → HoldsText ps vs (declare_of room d p v at x).answer text
  unfolding declare_of judge_of settle_of
  declare_free None text e = tt
  declare_free (Some Default) text e = append_none ps vs text room x (take 0 p) v
  declare_free (Some Named) text e = named_free (reserved_bind p v) text e

  named_stops : (k : Result Bool ReservedBinding) → refuses_named k ≡ true → is_done (settle_of room (named_of k p at) p v x).answer ≡ false
  unfolding named_of settle_of
  named_stops (Ok true) e = absurd (false≢true e)
  named_stops (Ok false) e = absurd (false≢true e)
  named_stops (Err Check.InvalidXmlPrefixBind) e = refl
  named_stops (Err Check.InvalidXmlnsPrefixBind) e = refl
  named_stops (Err Check.InvalidPrefixForXml) e = refl
  named_stops (Err Check.InvalidPrefixForXmlns) e = refl

  -- what it refuses stops the call
  declare_stops : (d : Option PrefixDeclaration) → refuses_named (check_by d p v) ≡ true → is_done (declare_of room d p v at x).answer ≡ false
  unfolding declare_of judge_of
  declare_stops None e = absurd (false≢true e)
  declare_stops (Some Default) e = absurd (false≢true e)
  declare_stops (Some Named) e = named_stops (reserved_bind p v) e

  check_text : (d : Option PrefixDeclaration) → refuses_named (check_by d p v) ≡ true → refused_text (reserved_bind p v) p v ≡ refused_text (check_by d p v) p v
  check_text None e = absurd (false≢true e)
  check_text (Some Default) e = absurd (false≢true e)
  check_text (Some Named) e = refl

module _ (s : List ℕ) (room : Room) where
  abbrev Holds : List Declaration → Type 0
  Holds ds = (x : NamespaceResolver) → HoldsText s s (declare_all room ds x).answer (refused_in ds)

  stop_holds : (d : Declaration) (ds : List Declaration) → Placed s d → (x : NamespaceResolver) → refuses_named (check_by d.kind d.prefix d.value) ≡ true → HoldsText s s (declare_all room (d ∷ ds) x).answer (refused_in (d ∷ ds))
  unfolding declare_all then_of refused_in
  stop_holds d ds i x e =
      let h = declare_holds s s d.prefix d.value d.at i.prefix i.value room x d.kind in
      rw (declare_stops s s d.prefix d.value d.at room x d.kind e, e)
      (subst (HoldsText s s (declare_one room d x).answer) (check_text s s d.prefix d.value d.at room x d.kind e) h)

  on_holds : (d : Declaration) (ds : List Declaration) → Holds ds → (x : NamespaceResolver) → refuses_named (check_by d.kind d.prefix d.value) ≡ false → (t : Bool) → is_done (declare_one room d x).answer ≡ t → HoldsText s s (declare_all room (d ∷ ds) x).answer (refused_in (d ∷ ds))
  unfolding declare_all then_of refused_in
  on_holds d ds next x e true q = rw (q, e) (next (declare_one room d x).resolver)
  on_holds d ds next x e false q = rw (q, e) (declare_free s s d.prefix d.value d.at room x d.kind (refused_in ds) e)

  step_holds : (d : Declaration) (ds : List Declaration) → Placed s d → Holds ds → (x : NamespaceResolver) (t : Bool) → refuses_named (check_by d.kind d.prefix d.value) ≡ t → HoldsText s s (declare_all room (d ∷ ds) x).answer (refused_in (d ∷ ds))
  step_holds d ds i next x true e = stop_holds d ds i x e
  step_holds d ds i next x false e = on_holds d ds next x e (is_done (declare_one room d x).answer) refl

  all_hold : (ds : List Declaration) → AllPlaced s ds → Holds ds
  unfolding declare_all
  all_hold [] i x = tt
  all_hold (d ∷ ds) i x = step_holds d ds i.0 (all_hold ds i.1) x (refuses_named (check_by d.kind d.prefix d.value)) refl

-- `push`: what 12 to 15 hold is marked in the tag, and is what the first refused declaration is refused for.
pub push_holds : (s : List ℕ) (from : ℕ) (x : NamespaceResolver) → HoldsText s s (push_of s from x).answer (refused_in (tag_declarations s from))
unfolding push_of
push_holds s from x =
    let ds = tag_declarations s from in
    let P : Changed → Type 0 = λ c. HoldsText s s c.answer (refused_in ds) in
    picks P (valid_of x)
    (λ v. picks P (leb DEEPEST x.head.level) (λ h. tt) (λ h. all_hold s whole ds (all_placed s (tag_answers s from) (answers_in_lem s from)) (raised_of x)))
    (λ v. tt)
