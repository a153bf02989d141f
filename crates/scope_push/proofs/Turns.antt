-- One turn of `push` over the tag's answers: the declarations from a place are one and those from the place that its answer
-- leaves; and what a declaration leaves of lent memory is as long as before, and holds what is in use.
use Prim.Native.Nat.{ℕ, ◌<◌}
use mathlib.Core.Path.{◌≡◌, refl, sym, ap, subst, ◌∙◌}
use mathlib.Core.Bool.{true, false}
use mathlib.Core.List.{List, [], ◌∷◌}
use mathlib.Core.Logic.{⊎_elim, ◌⊎◌, inl, inr}
use native.Mathlib.Omega.{arith}
use lib.ListN.{length}
use Rattle.std.specs.Prelude.{None, Some, Ok, Err}
use Rattle.tag_step.specs.declared.Span.{Span}
use Rattle.tag_step.specs.declared.Place.{Place}
use Rattle.tag_step.specs.declared.Place.TheVariants.{Next}
use Rattle.tag_step.specs.Answer.{Answer}
use Rattle.tag_step.specs.declared.Attr.TheVariants.{DoubleQ, SingleQ, Unquoted, Empty}
use Rattle.tag_step.specs.declared.Found.{Found}
use Rattle.tag_step.specs.Read.{recover_of}
use Rattle.tag_step.specs.Next.{place_good, standing, unchecked_of}
use Rattle.tag_step.specs.Run.{is_end, cons_unless, answers_of}
use Rattle.tag_step.proofs.Run.{todo}
use Rattle.tag_step.proofs.Unchecked.{unchecked_less, unchecked_stands, unchecked_turn, unchecked_opened}
use Rattle.tag_parts.specs.Parts.{key_part, value_part}
use Rattle.scope_table.specs.Answer.{is_done, NamespaceResult}
use Rattle.scope_table.specs.Lent.{given, lent_of}
use Rattle.scope_table.specs.declared.Head.{Head}
use Rattle.scope_change.specs.declared.Room.{Room}
use Rattle.scope_push.specs.declared.Bounds.{Bounds}
use Rattle.scope_push.specs.Push.{bounds, quoted_of, Declaration, declaration_of, declaration_then, declarations_of, tag_answers, tag_declarations, declare_one}
use Rattle.scope_push.specs.Run.{then_given, one_by_one}

-- an attribute with quotes
abbrev pub Quoted : Answer → Span → Span → Type 0
Quoted a k v = (a ≡ Some (Ok (DoubleQ k v))) ⊎ (a ≡ Some (Ok (SingleQ k v)))

pub quoted_is : (a : Answer) (b : Bounds) → quoted_of a ≡ Some b → Quoted a b.key b.value
unfolding quoted_of
quoted_is None b e = let z : ◌≡◌ {A = ℕ} 0 1 = cc in absurd (omega arith)
quoted_is (Some (Ok (DoubleQ k v))) b e = let z : bounds k v ≡ b = cc in inl (ap (λ (x : Bounds). Some (Ok (DoubleQ x.key x.value))) z)
quoted_is (Some (Ok (SingleQ k v))) b e = let z : bounds k v ≡ b = cc in inr (ap (λ (x : Bounds). Some (Ok (SingleQ x.key x.value))) z)
quoted_is (Some (Ok (Unquoted k v))) b e = let z : ◌≡◌ {A = ℕ} 0 1 = cc in absurd (omega arith)
quoted_is (Some (Ok (Empty k))) b e = let z : ◌≡◌ {A = ℕ} 0 1 = cc in absurd (omega arith)
quoted_is (Some (Err x)) b e = let z : ◌≡◌ {A = ℕ} 0 1 = cc in absurd (omega arith)

takes : (s : List ℕ) (more : List Answer) (a : Answer) (k v : Span) → Quoted a k v → declarations_of s (cons_unless (is_end a) a more) ≡ declaration_of (key_part s a) (value_part s a) k v ∷ declarations_of s more
unfolding declarations_of declaration_then cons_unless is_end
takes s more a k v = ⊎_elim (λ e. rw e) (λ e. rw e)

stops : (s : List ℕ) (more : List Answer) (a : Answer) → quoted_of a ≡ None → declarations_of s (cons_unless (is_end a) a more) ≡ []
unfolding declarations_of declaration_then cons_unless is_end quoted_of
stops s more None e = refl
stops s more (Some (Ok (DoubleQ k v))) e = let z : ◌≡◌ {A = ℕ} 0 1 = cc in absurd (omega arith)
stops s more (Some (Ok (SingleQ k v))) e = let z : ◌≡◌ {A = ℕ} 0 1 = cc in absurd (omega arith)
stops s more (Some (Ok (Unquoted k v))) e = refl
stops s more (Some (Ok (Empty k))) e = refl
stops s more (Some (Err x)) e = refl

-- the declarations from a place on
abbrev pub declarations_at : List ℕ → Place → List Declaration
declarations_at s place = declarations_of s (answers_of s (standing place false false))

-- all of them are those from where the attributes begin
pub run_begins : (s : List ℕ) (from : ℕ) (room : Room) (t r : List ℕ) (h : Head) → one_by_one room (tag_declarations s from) t r h ≡ one_by_one room (declarations_at s (Next from)) t r h
unfolding tag_answers
run_begins s from room t r h = ap (λ (answers : List Answer). one_by_one room (declarations_of s answers) t r h) (unchecked_opened s false from)

module _ (s : List ℕ) (place : Place) (stands : place_good s place ≡ true) (x : Found) (e : x ≡ unchecked_of s false place) where
  turn : declarations_at s place ≡ declarations_of s (cons_unless (is_end x.answer) x.answer (answers_of s (standing x.place false false)))
  turn = rw e (ap (declarations_of s) (unchecked_turn s false place stands))

  -- the place that is left is good
  pub turn_stands : place_good s x.place ≡ true
  turn_stands = rw e (unchecked_stands s false place stands)

  -- an attribute leaves less to read
  pub turn_less : (k v : Span) → Quoted x.answer k v → todo (length s) (recover_of s x.place) < todo (length s) (recover_of s place)
  unfolding is_end
  turn_less k v q = subst (λ (y : Found). is_end y.answer ≡ false → todo (length s) (recover_of s y.place) < todo (length s) (recover_of s place)) (sym e) (unchecked_less s false place stands) (by q) where
    by : Quoted x.answer k v → is_end x.answer ≡ false
    by = ⊎_elim (λ w. rw w) (λ w. rw w)

  module _ (room : Room) (t r : List ℕ) (h : Head) where
    -- a refusal of the iterator, or its end
    pub turn_stops : quoted_of x.answer ≡ None → given (Ok tt) t r h ≡ one_by_one room (declarations_at s place) t r h
    unfolding one_by_one
    turn_stops w = sym (ap (λ (ds : List Declaration). one_by_one room ds t r h) (turn ∙ stops s _ x.answer w))

    module _ (a : Answer) (k v : Span) (same : a ≡ x.answer) (q : Quoted x.answer k v) (b : NamespaceResult) (t' r' : List ℕ) (h' : Head) where
      abbrev pub here : Declaration
      here = declaration_of (key_part s a) (value_part s a) k v

      module _ (gave : given b t' r' h' ≡ lent_of (declare_one room here) t r h) where
        turn_takes : one_by_one room (declarations_at s place) t r h ≡ then_given (given b t' r' h') (one_by_one room (declarations_at s x.place))
        unfolding one_by_one
        turn_takes = ap (λ (ds : List Declaration). one_by_one room ds t r h) (turn ∙ takes s _ x.answer k v q) ∙ rw (sym same, sym gave)

        -- an attribute that goes in, or declares nothing
        pub turn_goes_on : b ≡ Ok tt → one_by_one room (declarations_at s place) t r h ≡ one_by_one room (declarations_at s x.place) t' r' h'
        unfolding then_given
        turn_goes_on d = turn_takes ∙ rw d

        -- a refusal of `add`, or memory that does not hold it
        pub turn_refused : is_done b ≡ false → given b t' r' h' ≡ one_by_one room (declarations_at s place) t r h
        unfolding then_given
        turn_refused d = sym (turn_takes ∙ rw d)
