-- What the productions take for a value lacks its own quote: no piece of it has one. So a body of the productions is one
-- that reading asks for.
use Prim.Native.Nat.{ℕ}
use mathlib.Core.Path.{◌≡◌, refl}
use mathlib.Core.Bool.{Bool, true, not, ◌&&◌, false≢true}
use mathlib.Core.List.{List, [], ◌∷◌, ◌++◌}
use lib.Dec.{eqb}
use Rattle.scan.specs.Bytes.{is_space, bytes_from, bytes}
use Rattle.scan.proofs.Bytes.{both}
use Rattle.law_wellformed.specs.Grammar.{each, some, is_in, one_of, name_byte, digit, hex_digit, Quote, double, single, quote_byte, value_byte, Piece, byte, entity, decimal, hex, piece_text, is_piece, value_text, are_pieces, IsValue, Attribute, AttributesBy, Body, WellFormed, Lacks, AllQuoted, QuotedBody}
use Rattle.law_wellformed.proofs.Cursor.{some_each}
use Rattle.law_wellformed.proofs.Tests.{digit_name, hex_name, name_value, value_no_quote}

pub and_both : (a b : Bool) → a ≡ true → b ≡ true → (a && b) ≡ true
and_both a b h g = rw (h, g)

module _ (p : ℕ → Bool) where
  pub each_append : (u w : List ℕ) → each p u ≡ true → each p w ≡ true → each p (u ++ w) ≡ true
  unfolding each
  each_append [] w h g = g
  each_append (x ∷ u) w h g =
      let b = both (p x) (each p u) h in
      and_both (p x) (each p (u ++ w)) b.0 (each_append u w b.1 g)

  pub each_more : (q : ℕ → Bool) → ((b : ℕ) → p b ≡ true → q b ≡ true) → (w : List ℕ) → each p w ≡ true → each q w ≡ true
  unfolding each
  each_more q f [] h = refl
  each_more q f (x ∷ w) h =
      let b = both (p x) (each p w) h in
      and_both (q x) (each q w) (f x b.0) (each_more q f w b.1)

  pub some_more : (q : ℕ → Bool) → ((b : ℕ) → p b ≡ true → q b ≡ true) → (w : List ℕ) → some p w ≡ true → some q w ≡ true
  unfolding some
  some_more q f [] h = absurd (false≢true h)
  some_more q f (x ∷ w) h =
      let b = both (p x) (each p w) h in
      and_both (q x) (each q w) (f x b.0) (each_more q f w b.1)

-- `&#65;` and `&#x41;` are of the form `&name;` too, a Name being taken as it is here
hash_name : (name_byte 35 ≡ true) × (name_byte 120 ≡ true)
unfolding name_byte is_space one_of is_in bytes bytes_from
hash_name = (refl, refl)

some_hash : (w : List ℕ) → some name_byte w ≡ true → some name_byte (35 ∷ w) ≡ true
unfolding some
some_hash w h = and_both (name_byte 35) (each name_byte w) hash_name.0 (some_each name_byte w h)

some_x : (w : List ℕ) → some name_byte w ≡ true → some name_byte (120 ∷ w) ≡ true
unfolding some
some_x w h = and_both (name_byte 120) (each name_byte w) hash_name.1 (some_each name_byte w h)

-- What holds of each byte that a value may have, and of each `&name;`, holds of each piece.
pub pieces : (P : List ℕ → Type 0) (q : Quote) → ((b : ℕ) → value_byte q b ≡ true → P (b ∷ [])) → ((n : List ℕ) → some name_byte n ≡ true → P (38 ∷ (n ++ (59 ∷ [])))) → (x : Piece) → is_piece q x ≡ true → P (piece_text x)
unfolding is_piece piece_text bytes bytes_from
pieces P q one ref (byte b) h = one b h
pieces P q one ref (entity n) h = ref n h
pieces P q one ref (decimal ds) h = ref (35 ∷ ds) (some_hash ds (some_more digit name_byte digit_name ds h))
pieces P q one ref (hex ds) h = ref (35 ∷ (120 ∷ ds)) (some_hash (120 ∷ ds) (some_x ds (some_more hex_digit name_byte hex_name ds h)))

abbrev not_quote : Quote → ℕ → Bool
not_quote q b = not (eqb b (quote_byte q))

ampersand_semicolon : (q : Quote) → (not_quote q 38 ≡ true) × (each (not_quote q) (59 ∷ []) ≡ true)
unfolding quote_byte each
ampersand_semicolon double = (refl, refl)
ampersand_semicolon single = (refl, refl)

one_lacks : (q : Quote) (b : ℕ) → value_byte q b ≡ true → each (not_quote q) (b ∷ []) ≡ true
unfolding each
one_lacks q b h = and_both (not_quote q b) true (value_no_quote q b h) refl

reference_lacks : (q : Quote) (n : List ℕ) → some name_byte n ≡ true → each (not_quote q) (38 ∷ (n ++ (59 ∷ []))) ≡ true
unfolding each
reference_lacks q n h =
    and_both (not_quote q 38) (each (not_quote q) (n ++ (59 ∷ []))) (ampersand_semicolon q).0
    (each_append (not_quote q) n (59 ∷ [])
    (each_more name_byte (not_quote q) (λ b e. value_no_quote q b (name_value q b e)) n (some_each name_byte n h))
    (ampersand_semicolon q).1)

pieces_lack : (q : Quote) (xs : List Piece) → are_pieces q xs ≡ true → each (not_quote q) (value_text xs) ≡ true
unfolding are_pieces value_text each
pieces_lack q [] h = refl
pieces_lack q (x ∷ xs) h =
    let b = both (is_piece q x) (are_pieces q xs) h in
    each_append (not_quote q) (piece_text x) (value_text xs)
    (pieces (λ (t : List ℕ). each (not_quote q) t ≡ true) q (one_lacks q) (reference_lacks q) x b.0)
    (pieces_lack q xs b.1)

pub value_lacks : (q : Quote) (v : List ℕ) → IsValue q v → Lacks q v
unfolding Lacks
value_lacks q v i = rw i.text at (pieces_lack q i.pieces i.are)

attributes_lack : (more : List Attribute) → AttributesBy IsValue more → AllQuoted more
unfolding AttributesBy AllQuoted
attributes_lack [] h = tt
attributes_lack (a ∷ more) h = (
  record { before = some_each is_space a.before h.0.before; name = h.0.name; before_eq = h.0.before_eq; after_eq = h.0.after_eq; value = value_lacks a.quote a.value h.0.value },
  attributes_lack more h.1,
)

pub body_lacks : (b : Body) → WellFormed b → QuotedBody b
body_lacks b h = record { attributes = attributes_lack b.attributes h.attributes; after = h.after }
