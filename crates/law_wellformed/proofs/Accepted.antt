-- `is_body` decides the productions. Each body is accepted: every part takes the pass from one state to the next. What is
-- accepted is a body: each state knows what has been read of one, and so which text the rest completes.
use Prim.Native.Nat.{ℕ}
use mathlib.Core.Path.{◌≡◌, refl, sym, ap, subst, ◌∙◌}
use mathlib.Core.Bool.{Bool, true, false, false≢true}
use mathlib.Core.Logic.{◌⊎◌, inl, inr, ⊎_elim, ◌↔◌}
use mathlib.Core.List.{List, [], ◌∷◌, ◌++◌, append_assoc, append-nil}
use lib.Dec.{eqb}
use borrow.Author.Tests.{eqb-true}
use Rattle.scan.specs.First.{pick}
use Rattle.scan.specs.Bytes.{is_space, bytes_from, bytes}
use Rattle.scan.proofs.Bytes.{both}
use Rattle.law_wellformed.specs.Grammar.{each, some, is_in, one_of, name_byte, Quote, double, single, quote_byte, value_byte, Piece, byte, entity, piece_text, is_piece, value_text, are_pieces, IsValue, Attribute, attribute_then, AttributeBy, Body, attributes_then, body_text, AttributesBy, WellFormed, HasBody}
use Rattle.law_wellformed.specs.Accept.{State, outside, spaced, in_name, named, after_eq, in_value, ampersand, in_reference, dead, after, passes, accepts, is_body}
use Rattle.law_wellformed.proofs.Cursor.{some_each}
use Rattle.law_wellformed.proofs.Tests.{space_no_name, name_no_space, name_value}
use Rattle.law_wellformed.proofs.Values.{and_both, each_append, pieces}

-- Each body is accepted.

passes_append : (x : State) (u w : List ℕ) → passes x (u ++ w) ≡ passes (passes x u) w
unfolding passes
passes_append x [] w = refl
passes_append x (b ∷ u) w = passes_append (after x b) u w

passes_to : (x y : State) (b : ℕ) (s : List ℕ) → after x b ≡ y → passes x (b ∷ s) ≡ passes y s
unfolding passes
passes_to x y b s e = ap (λ (z : State). passes z s) e

-- a run whose bytes keep the state
keeps : (x : State) (p : ℕ → Bool) → ((b : ℕ) → p b ≡ true → after x b ≡ x) → (w : List ℕ) → each p w ≡ true → passes x w ≡ x
unfolding passes each
keeps x p f [] h = refl
keeps x p f (b ∷ w) h =
    let e = both (p b) (each p w) h in
    rw (f b e.0) (keeps x p f w e.1)

-- a nonempty run whose first byte leads to a state that the others keep
enters : (x y : State) (p : ℕ → Bool) → ((b : ℕ) → p b ≡ true → after x b ≡ y) → ((b : ℕ) → p b ≡ true → after y b ≡ y) → (w : List ℕ) → some p w ≡ true → passes x w ≡ y
unfolding passes some
enters x y p f g [] h = absurd (false≢true h)
enters x y p f g (b ∷ w) h =
    let e = both (p b) (each p w) h in
    rw (f b e.0) (keeps y p g w e.1)

module _ (b : ℕ) where
  module _ (h : is_space b ≡ true) where
    outside_space : after outside b ≡ spaced
    unfolding after
    outside_space = rw h

    spaced_space : after spaced b ≡ spaced
    unfolding after
    spaced_space = rw h

    name_space : after in_name b ≡ named
    unfolding after
    name_space = rw (space_no_name b h, h)

    named_space : after named b ≡ named
    unfolding after
    named_space = rw h

    eq_space : after after_eq b ≡ after_eq
    unfolding after
    eq_space = rw h

  module _ (h : name_byte b ≡ true) where
    spaced_name : after spaced b ≡ in_name
    unfolding after
    spaced_name = rw (name_no_space b h, h)

    name_name : after in_name b ≡ in_name
    unfolding after
    name_name = rw h

    ampersand_name : (q : Quote) → after (ampersand q) b ≡ in_reference q
    unfolding after
    ampersand_name q = rw h

    value_name : (q : Quote) → after (in_value q) b ≡ in_value q
    unfolding after
    value_name q = rw (name_value q b h)

    -- a name may have a `;` of its own: what is read after it is then part of the value, and just as good
    reference_name : (q : Quote) → (after (in_reference q) b ≡ in_reference q) ⊎ (after (in_reference q) b ≡ in_value q)
    unfolding after
    reference_name q = by (eqb b 59) where
      by : (t : Bool) → (pick t (in_value q) (pick (name_byte b) (in_reference q) dead) ≡ in_reference q) ⊎ (pick t (in_value q) (pick (name_byte b) (in_reference q) dead) ≡ in_value q)
      by true = inr refl
      by false = inl (rw h)

  value_byte_lem : (q : Quote) → value_byte q b ≡ true → after (in_value q) b ≡ in_value q
  unfolding after
  value_byte_lem q h = rw h

eq_after : (after in_name 61 ≡ after_eq) × (after named 61 ≡ after_eq)
unfolding after name_byte is_space one_of is_in bytes bytes_from
eq_after = (refl, refl)

quote_opens : (q : Quote) → after after_eq (quote_byte q) ≡ in_value q
unfolding after is_space quote_byte
quote_opens double = refl
quote_opens single = refl

quote_closes : (q : Quote) → after (in_value q) (quote_byte q) ≡ outside
unfolding after value_byte one_of is_in bytes bytes_from quote_byte
quote_closes double = refl
quote_closes single = refl

ampersand_after : (q : Quote) → after (in_value q) 38 ≡ ampersand q
unfolding after value_byte one_of is_in bytes bytes_from quote_byte
ampersand_after double = refl
ampersand_after single = refl

semicolon_after : (q : Quote) → (after (in_reference q) 59 ≡ in_value q) × (after (in_value q) 59 ≡ in_value q)
unfolding after value_byte one_of is_in bytes bytes_from quote_byte
semicolon_after double = (refl, refl)
semicolon_after single = (refl, refl)

-- whitespace and `=`, from a name
name_eq : (w rest : List ℕ) → each is_space w ≡ true → passes in_name (w ++ (61 ∷ rest)) ≡ passes after_eq rest
unfolding each
name_eq [] rest h = passes_to in_name after_eq 61 rest eq_after.0
name_eq (b ∷ w) rest h =
    let e = both (is_space b) (each is_space w) h in
    passes_to in_name named b (w ++ (61 ∷ rest)) (name_space b e.0)
    ∙ passes_append named w (61 ∷ rest)
    ∙ ap (λ (x : State). passes x (61 ∷ rest)) (keeps named is_space named_space w e.1)
    ∙ passes_to named after_eq 61 rest eq_after.1

-- the rest of what `&` names, and its `;`
reference_rest : (q : Quote) (n : List ℕ) → each name_byte n ≡ true → (passes (in_reference q) (n ++ (59 ∷ [])) ≡ in_value q) × (passes (in_value q) (n ++ (59 ∷ [])) ≡ in_value q)
unfolding passes each
reference_rest q [] h = semicolon_after q
reference_rest q (b ∷ n) h =
    let e = both (name_byte b) (each name_byte n) h in
    let later = reference_rest q n e.1 in
    let u = n ++ (59 ∷ []) in (
      ⊎_elim (λ (g : after (in_reference q) b ≡ in_reference q). passes_to (in_reference q) (in_reference q) b u g ∙ later.0)
          (λ (g : after (in_reference q) b ≡ in_value q). passes_to (in_reference q) (in_value q) b u g ∙ later.1) (reference_name b e.0 q),
      passes_to (in_value q) (in_value q) b u (value_name b e.0 q) ∙ later.1,
    )

reference_passes : (q : Quote) (n : List ℕ) → some name_byte n ≡ true → passes (in_value q) (38 ∷ (n ++ (59 ∷ []))) ≡ in_value q
unfolding some
reference_passes q [] h = absurd (false≢true h)
reference_passes q (b ∷ n) h =
    let e = both (name_byte b) (each name_byte n) h in
    let u = n ++ (59 ∷ []) in
    passes_to (in_value q) (ampersand q) 38 (b ∷ u) (ampersand_after q)
    ∙ passes_to (ampersand q) (in_reference q) b u (ampersand_name b e.0 q)
    ∙ (reference_rest q n e.1).0

value_passes : (q : Quote) (xs : List Piece) → are_pieces q xs ≡ true → passes (in_value q) (value_text xs) ≡ in_value q
unfolding are_pieces value_text passes
value_passes q [] h = refl
value_passes q (x ∷ xs) h =
    let e = both (is_piece q x) (are_pieces q xs) h in
    let p : passes (in_value q) (piece_text x) ≡ in_value q = pieces (λ (t : List ℕ). passes (in_value q) t ≡ in_value q) q (λ b g. value_byte_lem b q g) (reference_passes q) x e.0 in
    rw (passes_append (in_value q) (piece_text x) (value_text xs), p) (value_passes q xs e.1)

attribute_passes : (a : Attribute) (rest : List ℕ) → AttributeBy IsValue a → passes outside (attribute_then a rest) ≡ passes outside rest
unfolding attribute_then passes
attribute_passes a rest fine =
    let q = a.quote in
    let r₅ = quote_byte q ∷ rest in
    let r₄ = quote_byte q ∷ (a.value ++ r₅) in
    let r₂ = a.before_eq ++ (61 ∷ (a.after_eq ++ r₄)) in
    let v : passes (in_value q) a.value ≡ in_value q = rw fine.value.text at (value_passes q fine.value.pieces fine.value.are) in
    passes_append outside a.before (a.name ++ r₂)
    ∙ ap (λ (x : State). passes x (a.name ++ r₂)) (enters outside spaced is_space outside_space spaced_space a.before fine.before)
    ∙ passes_append spaced a.name r₂
    ∙ ap (λ (x : State). passes x r₂) (enters spaced in_name name_byte spaced_name name_name a.name fine.name)
    ∙ name_eq a.before_eq (a.after_eq ++ r₄) fine.before_eq
    ∙ passes_append after_eq a.after_eq r₄
    ∙ ap (λ (x : State). passes x r₄) (keeps after_eq is_space eq_space a.after_eq fine.after_eq)
    ∙ ap (λ (x : State). passes x (a.value ++ r₅)) (quote_opens q)
    ∙ passes_append (in_value q) a.value r₅
    ∙ ap (λ (x : State). passes x r₅) v
    ∙ ap (λ (x : State). passes x rest) (quote_closes q)

space_accepted : (w : List ℕ) → each is_space w ≡ true → accepts (passes outside w) ≡ true
unfolding passes each accepts
space_accepted [] h = refl
space_accepted (b ∷ w) h =
    let e = both (is_space b) (each is_space w) h in
    rw (outside_space b e.0, keeps spaced is_space spaced_space w e.1)

attributes_accepted : (more : List Attribute) (w : List ℕ) → AttributesBy IsValue more → each is_space w ≡ true → accepts (passes outside (attributes_then more w)) ≡ true
unfolding attributes_then AttributesBy
attributes_accepted [] w fine h = space_accepted w h
attributes_accepted (a ∷ more) w fine h = rw (attribute_passes a (attributes_then more w) fine.0) (attributes_accepted more w fine.1 h)

-- complete: the text of each body is accepted
pub body_accepted : (b : Body) → WellFormed b → is_body (body_text b) ≡ true
unfolding is_body body_text
body_accepted b fine = attributes_accepted b.attributes b.after fine.attributes fine.after

-- What is accepted is a body.

-- an attribute up to its value
record Lead : Type 0 where
  before : List ℕ
  name : List ℕ
  before_eq : List ℕ
  after_eq : List ℕ
  before_is : some is_space before ≡ true
  name_is : some name_byte name ≡ true
  before_eq_is : each is_space before_eq ≡ true
  after_eq_is : each is_space after_eq ≡ true

abbrev lead_then : Lead → List ℕ → List ℕ
lead_then l s = l.before ++ (l.name ++ (l.before_eq ++ (61 ∷ (l.after_eq ++ s))))

-- the same, and the pieces of its value so far
abbrev open_then : Lead → Quote → List Piece → List ℕ → List ℕ
open_then l q xs s = lead_then l (quote_byte q ∷ (value_text xs ++ s))

-- what s completes, where the pass stands in a state: whatever led there, with s after it, is the text of a body
unfoldable Completes : State → List ℕ → Type 0
Completes outside s = HasBody s
Completes spaced s = (w : List ℕ) → some is_space w ≡ true → HasBody (w ++ s)
Completes in_name s = (w n : List ℕ) → some is_space w ≡ true → some name_byte n ≡ true → HasBody (w ++ (n ++ s))
Completes named s = (w n e : List ℕ) → some is_space w ≡ true → some name_byte n ≡ true → each is_space e ≡ true → HasBody (w ++ (n ++ (e ++ s)))
Completes after_eq s = (l : Lead) → HasBody (lead_then l s)
Completes (in_value q) s = (l : Lead) (xs : List Piece) → are_pieces q xs ≡ true → HasBody (open_then l q xs s)
Completes (ampersand q) s = (l : Lead) (xs : List Piece) → are_pieces q xs ≡ true → HasBody (open_then l q xs (38 ∷ s))
Completes (in_reference q) s = (l : Lead) (xs : List Piece) (n : List ℕ) → are_pieces q xs ≡ true → some name_byte n ≡ true → HasBody (open_then l q xs (38 ∷ (n ++ s)))
Completes dead s = Unit {0}

-- one more at the end

each_one : (p : ℕ → Bool) (b : ℕ) → p b ≡ true → each p (b ∷ []) ≡ true
unfolding each
each_one p b h = and_both (p b) true h refl

some_one : (p : ℕ → Bool) (b : ℕ) → p b ≡ true → some p (b ∷ []) ≡ true
unfolding some each
some_one p b h = and_both (p b) true h refl

each_snoc : (p : ℕ → Bool) (w : List ℕ) (b : ℕ) → each p w ≡ true → p b ≡ true → each p (w ++ (b ∷ [])) ≡ true
each_snoc p w b h g = each_append p w (b ∷ []) h (each_one p b g)

some_snoc : (p : ℕ → Bool) (w : List ℕ) (b : ℕ) → some p w ≡ true → p b ≡ true → some p (w ++ (b ∷ [])) ≡ true
unfolding some
some_snoc p [] b h g = absurd (false≢true h)
some_snoc p (x ∷ w) b h g =
    let e = both (p x) (each p w) h in
    and_both (p x) (each p (w ++ (b ∷ []))) e.0 (each_snoc p w b e.1 g)

pieces_snoc : (q : Quote) (xs : List Piece) (x : Piece) → are_pieces q xs ≡ true → is_piece q x ≡ true → are_pieces q (xs ++ (x ∷ [])) ≡ true
unfolding are_pieces
pieces_snoc q [] x h g = and_both (is_piece q x) true g refl
pieces_snoc q (y ∷ xs) x h g =
    let e = both (is_piece q y) (are_pieces q xs) h in
    and_both (is_piece q y) (are_pieces q (xs ++ (x ∷ []))) e.0 (pieces_snoc q xs x e.1 g)

text_snoc : (xs : List Piece) (x : Piece) (s : List ℕ) → value_text (xs ++ (x ∷ [])) ++ s ≡ value_text xs ++ (piece_text x ++ s)
unfolding value_text
text_snoc [] x s = ap (λ (l : List ℕ). l ++ s) (append-nil (piece_text x))
text_snoc (y ∷ xs) x s =
    append_assoc (piece_text y) (value_text (xs ++ (x ∷ []))) s
    ∙ ap (λ (l : List ℕ). piece_text y ++ l) (text_snoc xs x s)
    ∙ sym (append_assoc (piece_text y) (value_text xs) (piece_text x ++ s))

-- the last text completes what the first does, where the two are one
over : {u v : List ℕ} → u ≡ v → HasBody u → HasBody v
over e x = subst HasBody e x

-- whitespace alone
space_body : (w : List ℕ) → each is_space w ≡ true → HasBody w
unfolding body_text attributes_then AttributesBy
space_body w h = record { body = record { attributes = []; after = w }; fine = record { attributes = tt; after = h }; text = refl }

-- an attribute before a body
attribute_body : (l : Lead) (q : Quote) (xs : List Piece) → are_pieces q xs ≡ true → (s : List ℕ) → HasBody s → HasBody (open_then l q xs (quote_byte q ∷ s))
unfolding body_text attributes_then AttributesBy attribute_then
attribute_body l q xs h s x =
    record {
      body = record {
        attributes = record { before = l.before; name = l.name; before_eq = l.before_eq; after_eq = l.after_eq; quote = q; value = value_text xs } ∷ x.body.attributes;
        after = x.body.after;
      };
      fine = record {
        attributes = (record { before = l.before_is; name = l.name_is; before_eq = l.before_eq_is; after_eq = l.after_eq_is; value = record { pieces = xs; are = h; text = refl } }, x.fine.attributes);
        after = x.fine.after;
      };
      text = ap (λ (r : List ℕ). open_then l q xs (quote_byte q ∷ r)) x.text;
    }

dead_refused : (s : List ℕ) → accepts (passes dead s) ≡ true → ⊥
unfolding passes after accepts
dead_refused [] h = false≢true h
dead_refused (b ∷ s) h = dead_refused s h

-- what is accepted from a state completes what led there
abbrev Sound : List ℕ → Type 0
Sound s = (x : State) → accepts (passes x s) ≡ true → Completes x s

sound_nil : Sound []
unfolding Completes passes accepts each
sound_nil outside h = space_body [] refl
sound_nil spaced h = λ w f. over (sym (append-nil w)) (space_body w (some_each is_space w f))
sound_nil in_name h = absurd (false≢true h)
sound_nil named h = absurd (false≢true h)
sound_nil after_eq h = absurd (false≢true h)
sound_nil (in_value q) h = absurd (false≢true h)
sound_nil (ampersand q) h = absurd (false≢true h)
sound_nil (in_reference q) h = absurd (false≢true h)
sound_nil dead h = tt

module _ (b : ℕ) (s : List ℕ) (later : Sound s) where
  from_outside : (t : Bool) → is_space b ≡ t → accepts (passes (pick t spaced dead) s) ≡ true → HasBody (b ∷ s)
  unfolding Completes
  from_outside true e h = later spaced h (b ∷ []) (some_one is_space b e)
  from_outside false e h = absurd (dead_refused s h)

  from_spaced : (t n : Bool) → is_space b ≡ t → name_byte b ≡ n → accepts (passes (pick t spaced (pick n in_name dead)) s) ≡ true → Completes spaced (b ∷ s)
  unfolding Completes
  from_spaced true n e f h = λ w i. over (append_assoc w (b ∷ []) s) (later spaced h (w ++ (b ∷ [])) (some_snoc is_space w b i e))
  from_spaced false true e f h = λ w i. later in_name h w (b ∷ []) i (some_one name_byte b f)
  from_spaced false false e f h = absurd (dead_refused s h)

  from_name : (n t q : Bool) → name_byte b ≡ n → is_space b ≡ t → eqb b 61 ≡ q → accepts (passes (pick n in_name (pick t named (pick q after_eq dead))) s) ≡ true → Completes in_name (b ∷ s)
  unfolding Completes each
  from_name true t q e f g h = λ w n i j. over (ap (λ (l : List ℕ). w ++ l) (append_assoc n (b ∷ []) s)) (later in_name h w (n ++ (b ∷ [])) i (some_snoc name_byte n b j e))
  from_name false true q e f g h = λ w n i j. later named h w n (b ∷ []) i j (each_one is_space b f)
  from_name false false true e f g h = λ w n i j.
      over (ap (λ (x : ℕ). w ++ (n ++ (x ∷ s))) (sym (eqb-true b 61 g)))
      (later after_eq h (record { before = w; name = n; before_eq = []; after_eq = []; before_is = i; name_is = j; before_eq_is = refl; after_eq_is = refl }))
  from_name false false false e f g h = absurd (dead_refused s h)

  from_named : (t q : Bool) → is_space b ≡ t → eqb b 61 ≡ q → accepts (passes (pick t named (pick q after_eq dead)) s) ≡ true → Completes named (b ∷ s)
  unfolding Completes each
  from_named true q e f h = λ w n u i j k. over (ap (λ (l : List ℕ). w ++ (n ++ l)) (append_assoc u (b ∷ []) s)) (later named h w n (u ++ (b ∷ [])) i j (each_snoc is_space u b k e))
  from_named false true e f h = λ w n u i j k.
      over (ap (λ (x : ℕ). w ++ (n ++ (u ++ (x ∷ s)))) (sym (eqb-true b 61 f)))
      (later after_eq h (record { before = w; name = n; before_eq = u; after_eq = []; before_is = i; name_is = j; before_eq_is = k; after_eq_is = refl }))
  from_named false false e f h = absurd (dead_refused s h)

  -- a quote opens the value
  opens : (q : Quote) → b ≡ quote_byte q → accepts (passes (in_value q) s) ≡ true → Completes after_eq (b ∷ s)
  unfolding Completes value_text are_pieces
  opens q e h = λ l. over (ap (λ (x : ℕ). lead_then l (x ∷ s)) (sym e)) (later (in_value q) h l [] refl)

  from_eq : (t d q : Bool) → is_space b ≡ t → eqb b 34 ≡ d → eqb b 39 ≡ q → accepts (passes (pick t after_eq (pick d (in_value double) (pick q (in_value single) dead))) s) ≡ true → Completes after_eq (b ∷ s)
  unfolding Completes quote_byte
  from_eq true d q e f g h = λ l.
      over (ap (λ (r : List ℕ). l.before ++ (l.name ++ (l.before_eq ++ (61 ∷ r)))) (append_assoc l.after_eq (b ∷ []) s))
      (later after_eq h (record { before = l.before; name = l.name; before_eq = l.before_eq; after_eq = l.after_eq ++ (b ∷ []); before_is = l.before_is; name_is = l.name_is; before_eq_is = l.before_eq_is; after_eq_is = each_snoc is_space l.after_eq b l.after_eq_is e }))
  from_eq false true q e f g h = opens double (eqb-true b 34 f) h
  from_eq false false true e f g h = opens single (eqb-true b 39 g) h
  from_eq false false false e f g h = absurd (dead_refused s h)

  module _ (q : Quote) where
    -- one more piece of the value
    piece_more : (x : Piece) → is_piece q x ≡ true → accepts (passes (in_value q) s) ≡ true → (l : Lead) (xs : List Piece) → are_pieces q xs ≡ true → HasBody (open_then l q xs (piece_text x ++ s))
    unfolding Completes
    piece_more x e h l xs i = over (ap (λ (r : List ℕ). lead_then l (quote_byte q ∷ r)) (text_snoc xs x s)) (later (in_value q) h l (xs ++ (x ∷ [])) (pieces_snoc q xs x i e))

    from_value : (v m c : Bool) → value_byte q b ≡ v → eqb b 38 ≡ m → eqb b (quote_byte q) ≡ c → accepts (passes (pick v (in_value q) (pick m (ampersand q) (pick c outside dead))) s) ≡ true → Completes (in_value q) (b ∷ s)
    unfolding Completes is_piece piece_text
    from_value true m c e f g h = piece_more (byte b) e h
    from_value false true c e f g h = λ l xs i. over (ap (λ (x : ℕ). open_then l q xs (x ∷ s)) (sym (eqb-true b 38 f))) (later (ampersand q) h l xs i)
    from_value false false true e f g h = λ l xs i. over (ap (λ (x : ℕ). open_then l q xs (x ∷ s)) (sym (eqb-true b (quote_byte q) g))) (attribute_body l q xs i s (later outside h))
    from_value false false false e f g h = absurd (dead_refused s h)

    from_ampersand : (n : Bool) → name_byte b ≡ n → accepts (passes (pick n (in_reference q) dead) s) ≡ true → Completes (ampersand q) (b ∷ s)
    unfolding Completes
    from_ampersand true e h = λ l xs i. later (in_reference q) h l xs (b ∷ []) i (some_one name_byte b e)
    from_ampersand false e h = absurd (dead_refused s h)

    from_reference : (c n : Bool) → eqb b 59 ≡ c → name_byte b ≡ n → accepts (passes (pick c (in_value q) (pick n (in_reference q) dead)) s) ≡ true → Completes (in_reference q) (b ∷ s)
    unfolding Completes is_piece piece_text bytes bytes_from
    from_reference true n e f h = λ l xs m i j.
        over (ap (λ (r : List ℕ). open_then l q xs (38 ∷ r)) (append_assoc m (59 ∷ []) s ∙ ap (λ (x : ℕ). m ++ (x ∷ s)) (sym (eqb-true b 59 e))))
        (piece_more (entity m) j h l xs i)
    from_reference false true e f h = λ l xs m i j.
        over (ap (λ (r : List ℕ). open_then l q xs (38 ∷ r)) (append_assoc m (b ∷ []) s)) (later (in_reference q) h l xs (m ++ (b ∷ [])) i (some_snoc name_byte m b j f))
    from_reference false false e f h = absurd (dead_refused s h)

  sound_cons : Sound (b ∷ s)
  unfolding Completes passes after
  sound_cons outside h = from_outside (is_space b) refl h
  sound_cons spaced h = from_spaced (is_space b) (name_byte b) refl refl h
  sound_cons in_name h = from_name (name_byte b) (is_space b) (eqb b 61) refl refl refl h
  sound_cons named h = from_named (is_space b) (eqb b 61) refl refl h
  sound_cons after_eq h = from_eq (is_space b) (eqb b 34) (eqb b 39) refl refl refl h
  sound_cons (in_value q) h = from_value q (value_byte q b) (eqb b 38) (eqb b (quote_byte q)) refl refl refl h
  sound_cons (ampersand q) h = from_ampersand q (name_byte b) refl h
  sound_cons (in_reference q) h = from_reference q (eqb b 59) (name_byte b) refl refl h
  sound_cons dead h = tt

sound : (s : List ℕ) → Sound s
sound [] = sound_nil
sound (b ∷ s) = sound_cons b s (sound s)

-- sound: what is accepted is the text of a body
pub accepted_body : (s : List ℕ) → is_body s ≡ true → HasBody s
unfolding is_body Completes
accepted_body s h = sound s outside h

-- `is_body` decides whether some bytes are a body of productions 40, 41, 25 and 10.
pub grammar_decided : (s : List ℕ) → is_body s ≡ true ↔ HasBody s
grammar_decided s = (accepted_body s, λ x. rw x.text at (body_accepted x.body x.fine))
