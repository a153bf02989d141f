-- The laws of the sieve: the bit of each kept hash is set, so that a hash whose bit is not set is none of them.
use Prim.Native.Nat.{ℕ, zero, suc, ◌+◌, ◌*◌, ◌/◌, ◌%◌, ◌^◌, ◌≤◌, ◌<◌}
use mathlib.Core.Path.{◌≡◌, refl, sym, ap, ◌∙◌}
use mathlib.Core.Bool.{Bool, true, false, true≢false}
use mathlib.Core.Logic.{⊎_elim}
use mathlib.Core.List.{List}
use native.Mathlib.Nat.{eq-or-lt_of_le, mod-lt, mod-eq_of_lt, div_self, one-mul}
use native.Mathlib.Numerals.{add-one}
use native.Mathlib.Omega.{arith}
use lib.ListN.{length, get_or, set, length-set, length-replicate}
use lib.Seq.{get_or-set_same, get_or-set_other}
use lib.Bits.{bit_or, or_shr, or_mod}
use lib.Pow.{pow_pos, pow-lt}
use lib.Dec.{eqb, ltb}
use borrow.Author.Tests.{eq-eqb, eqb-true, eqb-false}
use Rattle.std.proofs.Common.{Option, Some, None, Ok}
use Rattle.scan.specs.First.{pick}
use Rattle.scan.specs.Bytes.{part}
use Rattle.tag_keys.specs.Hash.{hash_of}
use Rattle.tag_keys.specs.Sieve.{sieve_words, sieve_word, in_sieve, sieved, empty_sieve, sieve_of, SieveOf, sieve_left, sieved_in}
use Rattle.tag_keys.specs.Keys.{capacity, KeysIn, holds, has_place, earlier_of, checked_by, checked_of, recorded_in}
use Rattle.tag_keys.proofs.Laws.{earlier_none, holds_facts}

-- Bits.

abbrev bit : ℕ → ℕ → ℕ
bit w b = w / 2 ^ b % 2

or_bit : (v w b : ℕ) → bit (bit_or v w) b ≡ bit_or (bit v b) (bit w b)
or_bit v w b = ap (λ (x : ℕ). x % 2) (or_shr v w b) ∙ or_mod (v / 2 ^ b) (w / 2 ^ b) 1

bit_two : (w b : ℕ) → bit w b < 2
bit_two w b = mod-lt (w / 2 ^ b) (omega arith)

or_one : (x : ℕ) → x < 2 → (bit_or 1 x ≡ 1) × (bit_or x 1 ≡ 1)
or_one zero h = (refl, refl)
or_one (suc zero) h = (refl, refl)
or_one (suc (suc x)) h = absurd (omega arith)

-- a bit that is set stays set, whatever is added; and one that is added is set
bit_stays : (v w b : ℕ) → bit v b ≡ 1 → bit (bit_or v w) b ≡ 1
bit_stays v w b e = or_bit v w b ∙ rw e (or_one (bit w b) (bit_two w b)).0

bit_own : (v b : ℕ) → bit (bit_or v (2 ^ b)) b ≡ 1
bit_own v b =
    let one : bit (2 ^ b) b ≡ 1 = ap (λ (x : ℕ). x % 2) (div_self (pow_pos b)) in
    or_bit v (2 ^ b) b ∙ rw one (or_one (bit v b) (bit_two v b)).1

-- The sieve with one hash more.

module _ (sieve : List ℕ) (hash : ℕ) where
  pub sieved_length : length (sieved sieve hash) ≡ length sieve
  unfolding sieved
  sieved_length = length-set sieve (sieve_word hash) (bit_or (get_or sieve (sieve_word hash) 0) (2 ^ (hash % 64)))

  -- the definitions by the word's index as the code has it
  module _ (at : ℕ) (e : at ≡ sieve_word hash) where
    pub in_word : eqb (get_or sieve at 0 / 2 ^ (hash % 64) % 2) 1 ≡ in_sieve sieve hash
    unfolding in_sieve
    in_word = rw e

    pub sieved_word : set sieve at (bit_or (get_or sieve at 0) (1 * 2 ^ (hash % 64) % 2 ^ 64)) ≡ sieved sieve hash
    unfolding sieved
    sieved_word =
        let one : 1 * 2 ^ (hash % 64) ≡ 2 ^ (hash % 64) = one-mul (2 ^ (hash % 64)) in
        rw (e, one, mod-eq_of_lt (pow-lt (mod-lt hash {m = 64} (omega arith))))

  module _ (long : length sieve ≡ sieve_words) where
    word_inside : sieve_word hash < length sieve
    unfolding sieve_word
    word_inside = omega (arith, long, mod-lt (hash / 64) {m = sieve_words} (omega arith))

    pub at_inside : (at : ℕ) → at ≡ sieve_word hash → at < length sieve
    at_inside at e = omega (arith, e, word_inside)

    own_in : in_sieve (sieved sieve hash) hash ≡ true
    unfolding in_sieve sieved
    own_in =
        let v = get_or sieve (sieve_word hash) 0 in
        eq-eqb (bit (get_or (set sieve (sieve_word hash) (bit_or v (2 ^ (hash % 64)))) (sieve_word hash) 0) (hash % 64)) 1
        (ap (λ (w : ℕ). bit w (hash % 64)) (get_or-set_same sieve (sieve_word hash) (bit_or v (2 ^ (hash % 64))) 0 word_inside) ∙ bit_own v (hash % 64))

    stays_in : (g : ℕ) → in_sieve sieve g ≡ true → in_sieve (sieved sieve hash) g ≡ true
    unfolding in_sieve sieved
    stays_in g e = by (eqb (sieve_word g) (sieve_word hash)) refl where
      new : ℕ
      new = bit_or (get_or sieve (sieve_word hash) 0) (2 ^ (hash % 64))

      set_bit : bit (get_or sieve (sieve_word g) 0) (g % 64) ≡ 1
      set_bit = eqb-true (bit (get_or sieve (sieve_word g) 0) (g % 64)) 1 e

      by : (t : Bool) → eqb (sieve_word g) (sieve_word hash) ≡ t → eqb (bit (get_or (set sieve (sieve_word hash) (bit_or (get_or sieve (sieve_word hash) 0) (2 ^ (hash % 64)))) (sieve_word g) 0) (g % 64)) 1 ≡ true
      by true s =
          let w : sieve_word g ≡ sieve_word hash = eqb-true (sieve_word g) (sieve_word hash) s in
          eq-eqb (bit (get_or (set sieve (sieve_word hash) (bit_or (get_or sieve (sieve_word hash) 0) (2 ^ (hash % 64)))) (sieve_word g) 0) (g % 64)) 1
          (rw (w, get_or-set_same sieve (sieve_word hash) (bit_or (get_or sieve (sieve_word hash) 0) (2 ^ (hash % 64))) 0 word_inside)
          (bit_stays (get_or sieve (sieve_word hash) 0) (2 ^ (hash % 64)) (g % 64) (rw w at set_bit)))
      by false s =
          let n = eqb-false (sieve_word g) (sieve_word hash) s in
          rw (get_or-set_other sieve (sieve_word hash) (sieve_word g) (bit_or (get_or sieve (sieve_word hash) 0) (2 ^ (hash % 64))) 0 n) e

-- The sieve of kept hashes.

pub empty_length : length empty_sieve ≡ sieve_words
unfolding empty_sieve
empty_length = length-replicate {A = ℕ} sieve_words 0

pub sieve_length : (hashes : List ℕ) (n : ℕ) → length (sieve_of hashes n) ≡ sieve_words
unfolding sieve_of
sieve_length hashes zero = empty_length
sieve_length hashes (suc n) = sieved_length (sieve_of hashes n) (get_or hashes n 0) ∙ sieve_length hashes n

all_in : (hashes : List ℕ) (n k : ℕ) → k < n → in_sieve (sieve_of hashes n) (get_or hashes k 0) ≡ true
unfolding sieve_of
all_in hashes zero k lt = absurd (omega arith)
all_in hashes (suc n) k lt =
    let long = sieve_length hashes n in
    ⊎_elim (λ (e : k ≡ n). rw e (own_in (sieve_of hashes n) (get_or hashes n 0) long))
    (λ (l : k < n). stays_in (sieve_of hashes n) (get_or hashes n 0) long (get_or hashes k 0) (all_in hashes n k l))
    (eq-or-lt_of_le (omega arith))

-- one hash more, by its index
pub sieve_next : (hashes : List ℕ) (n : ℕ) (sieve after : List ℕ) → sieve ≡ sieve_of hashes n → after ≡ sieved sieve (get_or hashes n 0) → after ≡ sieve_of hashes (n + 1)
unfolding sieve_of
sieve_next hashes n sieve after e f = rw (f, e, add-one n)

-- what is written behind the hashes does not matter
sieve_before : (hashes : List ℕ) (i x n : ℕ) → n ≤ i → sieve_of (set hashes i x) n ≡ sieve_of hashes n
unfolding sieve_of
sieve_before hashes i x zero le = refl
sieve_before hashes i x (suc n) le =
    let other : n ≡ i → ⊥ = λ e. omega arith in
    rw (sieve_before hashes i x n (omega arith), get_or-set_other hashes i n x 0 other)

-- a hash is recorded
pub sieve_more : (hashes : List ℕ) (n x : ℕ) → n < length hashes → sieved (sieve_of hashes n) x ≡ sieve_of (set hashes n x) (n + 1)
sieve_more hashes n x lt =
    sym (ap (λ (s : List ℕ). sieved s (get_or (set hashes n x) n 0)) (sieve_before hashes n x n (omega arith))
    ∙ ap (sieved (sieve_of hashes n)) (get_or-set_same hashes n x 0 lt))
    ∙ sieve_next (set hashes n x) n (sieve_of (set hashes n x) n) (sieved (sieve_of (set hashes n x) n) (get_or (set hashes n x) n 0)) refl refl

-- A hash that is not in the sieve of the kept ones is that of no recorded key.
pub sieve_none : (tag starts ends hashes : List ℕ) (count from to : ℕ) → KeysIn starts ends hashes count tag → (sieve : List ℕ) (hash : ℕ) → sieve ≡ sieve_of hashes count → hash ≡ hash_of (part tag from to) → in_sieve sieve hash ≡ false → None ≡ earlier_of tag starts ends count from to
sieve_none tag starts ends hashes count from to keys sieve hash e f out =
    sym (earlier_none tag starts ends count from to
    (λ k lt same.
    let own : get_or hashes k 0 ≡ hash = keys.kept k lt ∙ ap hash_of same ∙ sym f in
    let here : in_sieve sieve hash ≡ true = rw (e, sym own) (all_in hashes count k lt) in
    true≢false (sym here ∙ out)))

-- What a step leaves of the sieve: it stays where no key is recorded, and takes the hash of a new one.

module _ (checks : Bool) (sieve hashes : List ℕ) (count : ℕ) (before : SieveOf checks sieve hashes count) where
  pub sieve_stays : sieve ≡ sieve_left checks sieve hashes count
  sieve_stays = by checks refl where
    by : (t : Bool) → checks ≡ t → sieve ≡ sieve_left t sieve hashes count
    by true on = before.all on
    by false off = refl

  pub sieve_alone : (sieve' hashes' : List ℕ) → sieve' ≡ sieve → hashes' ≡ hashes → sieve' ≡ sieve_left checks sieve hashes' count
  sieve_alone sieve' hashes' e f = rw (e, f) sieve_stays

  pub sieve_fresh : (tag starts ends : List ℕ) (from to n hash : ℕ) (hashes' sieve' : List ℕ) → checked_of tag checks starts ends count from to ≡ Ok n → true ≡ has_place checks starts ends hashes count → hashes' ≡ recorded_in checks hashes count hash → sieve' ≡ sieved_in checks sieve hash → sieve' ≡ sieve_left checks sieve hashes' n
  unfolding checked_of checked_by has_place
  sieve_fresh tag starts ends from to n hash hashes' sieve' = by checks refl where
    more : (x : Option ℕ) (t : Bool) → ltb count capacity ≡ t → checked_by count x ≡ Ok n → n ≡ count + 1
    more (Some p) t h = λ e. absurd (let z : ◌≡◌ {A = ℕ} 0 1 = cc in omega arith)
    more None true h = rw h (λ e. sym cc)
    more None false h = rw h (λ e. absurd (let z : ◌≡◌ {A = ℕ} 0 1 = cc in omega arith))

    by : (t : Bool) → checks ≡ t → pick t (checked_by count (earlier_of tag starts ends count from to)) (Ok count) ≡ Ok n → true ≡ pick t (holds starts ends hashes (count + 1)) true → hashes' ≡ recorded_in t hashes count hash → sieve' ≡ sieved_in t sieve hash → sieve' ≡ sieve_left t sieve hashes' n
    by true on v held h g =
        let places = holds_facts starts ends hashes (count + 1) (sym held) in
        rw (g, before.all on, h, more (earlier_of tag starts ends count from to) (ltb count capacity) refl v) (sieve_more hashes count hash (omega arith))
    by false off v held h g = g

-- so that it is that of the hashes kept then
pub sieve_goes_on : (checks : Bool) (sieve hashes sieve' : List ℕ) (n : ℕ) → sieve' ≡ sieve_left checks sieve hashes n → SieveOf checks sieve' hashes n
sieve_goes_on checks sieve hashes sieve' n e = record { all = λ on. e ∙ rw on }

-- while checks are off any will do
pub sieve_unasked : (sieve hashes : List ℕ) (n : ℕ) → SieveOf false sieve hashes n
sieve_unasked sieve hashes n = record { all = λ on. absurd (true≢false (sym on)) }
