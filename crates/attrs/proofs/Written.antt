-- The output part by part: what comes next is written where the last part ended, and the parts are the whole. The lines of
-- a page are those of the next answers, since the reader stands behind the answers that were shown.
use Prim.Native.Nat.{ℕ, suc, ◌+◌, ◌-◌, ◌*◌, ◌^◌, ◌≤◌, ◌<◌}
use mathlib.Core.Path.{◌≡◌, refl, sym, ap, ◌∙◌}
use mathlib.Core.Bool.{true, false}
use mathlib.Core.Logic.{⊎_elim}
use mathlib.Core.List.{List, [], ◌∷◌, ◌++◌, append-nil, append_assoc}
use native.Mathlib.Nat.{eq-or-lt_of_le}
use native.Mathlib.Omega.{arith}
use lib.ListN.{length, take, drop, length-append}
use lib.Seq.{take_at, take-append_seam, drop-append_seam}
use Rattle.std.specs.Prelude.{Result, OnErr}
use Rattle.std.proofs.Common.{Ok, Err}
use Rattle.scan.specs.Bytes.{part, bytes_from, bytes}
use Rattle.scan.specs.Lists.{over}
use Rattle.tag_step.specs.Answer.{Answer}
use Rattle.tag_step.specs.declared.IterState.{IterState}
use Rattle.tag_step.specs.Next.{opened}
use Rattle.tag_step.specs.Numbers.{numbers_of}
use Rattle.tag_step.specs.Run.{run_of, answers_of}
use Rattle.tag_step.proofs.Run.{run_whole}
use Rattle.tag_step.proofs.Good.{opened_sized}
use Rattle.tag_batch.specs.Batch.{five_of, left_of}
use Rattle.tag_batch.proofs.Turns.{five_length}
use Rattle.lines.specs.Lines.{decimal_of, line_of, lines_of}
use Rattle.lines.proofs.Text.{decimal_length, line_length}
use Rattle.lines.proofs.Pages.{own_numbers}
use Rattle.lines.proofs.Batches.{Stand, stand_last, run_most, run_full, run_short}
use Rattle.attrs.specs.Count.{attrs_answers}
use Rattle.attrs.specs.Output.{count_line, output_of, ComesNext, ToCount}

-- What holds whatever an answer is holds where it is a refusal to write.
pub on_refusal : {T E P : Type 0} (r : Result T E) → P → OnErr r P
on_refusal (Ok x) p = tt
on_refusal (Err e) p = p

-- Lines.

pub lines_append : (l m : List Answer) → lines_of (l ++ m) ≡ lines_of l ++ lines_of m
unfolding lines_of
lines_append [] m = refl
lines_append (a ∷ l) m = rw (lines_append l m) (sym (append_assoc (line_of (numbers_of a)) (lines_of l) (lines_of m)))

line_most : (a : Answer) → length (line_of (numbers_of a)) ≤ 107
line_most a = rw (own_numbers a) at (line_length (five_of a) (five_length a))

pub lines_most : (l : List Answer) → length (lines_of l) ≤ 107 * length l
unfolding lines_of
lines_most [] = omega arith
lines_most (a ∷ l) = omega (arith, length-append (line_of (numbers_of a)) (lines_of l), line_most a, lines_most l)

-- The output.

count_most : (n : ℕ) → length (count_line n) ≤ 29
unfolding count_line bytes bytes_from
count_most n = omega (arith, length-append (decimal_of n) (10 ∷ []), decimal_length n)

answers_most : (s : List ℕ) → length (attrs_answers s) ≤ suc (length s)
unfolding attrs_answers answers_of
answers_most s = run_most (suc (length s)) s (opened 0 false true)

output_most : (s : List ℕ) → length s ≤ 65536 → length (output_of s) < 2 ^ 64
unfolding output_of
output_most s short =
    omega (arith, length-append (count_line (length (attrs_answers s))) (lines_of (attrs_answers s)), count_most (length (attrs_answers s)), lines_most (attrs_answers s), answers_most s)

-- a part between two others
part_mid : (a x b : List ℕ) (n : ℕ) → n ≡ length a → part (a ++ (x ++ b)) n (n + length x) ≡ x
unfolding part
part_mid a x b n e =
    let m : n + length x - n ≡ length x = omega arith in
    rw (m, e, drop-append_seam a (x ++ b), take-append_seam x b)

pub comes_next : (s before text after : List ℕ) (written : ℕ) → length s ≤ 65536 → output_of s ≡ before ++ (text ++ after) → written ≡ length before → ComesNext s written text
comes_next s before text after written short e w =
    record {
      next = rw e (part_mid before text after written w);
      fits = omega (arith, output_most s short, ap length e, length-append before (text ++ after), length-append text after);
    }

-- The count.

-- Its three parts: the word, the digits, the line feed.
module _ (s : List ℕ) (start total : ℕ) (to : ToCount s start total) where
  abbrev lines : List ℕ
  lines = lines_of (attrs_answers s)

  output_word : output_of s ≡ [] ++ (bytes "answers " ++ ((decimal_of total ++ bytes "\n") ++ lines))
  unfolding output_of count_line
  output_word = rw (to.all, append_assoc (bytes "answers ") (decimal_of (length (attrs_answers s)) ++ bytes "\n") lines)

  pub word_next : ComesNext s start (bytes "answers ")
  word_next = comes_next s [] (bytes "answers ") _ start to.short output_word to.none

  module _ {word : ℕ} (after-word : word ≡ start + length (bytes "answers ")) where
    output_digits : output_of s ≡ bytes "answers " ++ (decimal_of total ++ (bytes "\n" ++ lines))
    output_digits = output_word ∙ rw (append_assoc (decimal_of total) (bytes "\n") lines)

    module _ {digits : List ℕ} (are : digits ≡ decimal_of total) where
      -- where the digits can't be written, the word is
      pub within_digits : word ≤ length (output_of s)
      within_digits = omega (arith, ap length output_digits, to.none, length-append (bytes "answers ") (decimal_of total ++ (bytes "\n" ++ lines)))

      pub digits_next : ComesNext s word digits
      digits_next = rw are (comes_next s (bytes "answers ") (decimal_of total) _ word to.short output_digits (omega (arith, to.none)))

      module _ {end : ℕ} (after-digits : end ≡ word + length digits) where
        output_feed : output_of s ≡ (bytes "answers " ++ decimal_of total) ++ (bytes "\n" ++ lines)
        output_feed = output_digits ∙ sym (append_assoc (bytes "answers ") (decimal_of total) (bytes "\n" ++ lines))

        -- where the line feed can't be written, the digits are
        pub within_feed : end ≤ length (output_of s)
        within_feed = omega (arith, ap length output_feed, to.none, ap length are, length-append (bytes "answers " ++ decimal_of total) (bytes "\n" ++ lines), length-append (bytes "answers ") (decimal_of total))

        pub feed_next : ComesNext s end (bytes "\n")
        feed_next =
            comes_next s (bytes "answers " ++ decimal_of total) (bytes "\n") lines end to.short output_feed
            (omega (arith, to.none, ap length are, length-append (bytes "answers ") (decimal_of total)))

        pub count_done : {all : ℕ} → all ≡ end + length (bytes "\n") → all ≡ length (count_line total)
        unfolding count_line
        count_done e =
            omega (arith, to.none, ap length are, length-append (bytes "answers ") (decimal_of total ++ bytes "\n"), length-append (decimal_of total) (bytes "\n"))

-- The lines.

-- a longer run begins with the shorter one
run_begins : (k m : ℕ) (s : List ℕ) (st : IterState) → (rest : List Answer) × (run_of (m + k) s st ≡ run_of m s st ++ rest)
run_begins k m s st =
    ⊎_elim (λ (e : length (run_of m s st) ≡ m). (run_of k s (left_of m s st), run_full k s m st e))
    (λ (l : length (run_of m s st) < m). ([], run_short k s m st l ∙ sym (append-nil (run_of m s st))))
    (eq-or-lt_of_le (run_most m s st))

abbrev pub fresh : IterState
fresh = opened 0 false true

-- the count and the lines of the first n answers are written
unfoldable pub Shown : List ℕ → ℕ → ℕ → Type 0
Shown s n written = written ≡ length (count_line (length (attrs_answers s))) + length (lines_of (run_of n s fresh))

pub shown_none : (s : List ℕ) (written : ℕ) → written ≡ length (count_line (length (attrs_answers s))) → Shown s 0 written
unfolding Shown run_of lines_of
shown_none s written e = omega arith

module _ (s : List ℕ) (n : ℕ) (st : IterState) (a : Stand s fresh n st) (written : ℕ) (done : Shown s n written) (m : ℕ) where
  abbrev count : List ℕ
  count = count_line (length (attrs_answers s))

  abbrev page : List ℕ
  page = lines_of (run_of m s st)

  -- all answers: those shown, those of the page, and what is left
  answers_from_lem : (rest : List Answer) × (attrs_answers s ≡ run_of n s fresh ++ (run_of m s st ++ rest))
  unfolding attrs_answers
  answers_from_lem =
      let b = run_begins (suc (length s)) m s st in
      let e : suc (length s) + (n + m) ≡ n + (m + suc (length s)) = omega arith in
      let w : run_of (n + (m + suc (length s))) s fresh ≡ answers_of s fresh = rw e at (run_whole (n + m) s fresh (opened_sized 0 false true)) in
      (b.0, sym w ∙ a.on (m + suc (length s)) ∙ rw b.1)

  output_from : output_of s ≡ (count ++ lines_of (run_of n s fresh)) ++ (page ++ lines_of answers_from_lem.0)
  unfolding output_of
  output_from =
      let lines = ap lines_of answers_from_lem.1 ∙ lines_append (run_of n s fresh) (run_of m s st ++ answers_from_lem.0) ∙ ap (λ (l : List ℕ). lines_of (run_of n s fresh) ++ l) (lines_append (run_of m s st) answers_from_lem.0) in
      ap (λ (l : List ℕ). count ++ l) lines ∙ sym (append_assoc count (lines_of (run_of n s fresh)) (page ++ lines_of answers_from_lem.0))

  -- so the page comes next
  pub page_next : length s ≤ 65536 → ComesNext s written page
  unfolding Shown
  page_next short =
      comes_next s (count ++ lines_of (run_of n s fresh)) page (lines_of answers_from_lem.0) written short output_from
      (omega (arith, length-append count (lines_of (run_of n s fresh))))

  -- where it can't be written, no more is written than the output has
  pub shown_within : written ≤ length (output_of s)
  unfolding Shown
  shown_within =
      omega (arith, ap length output_from, length-append (count ++ lines_of (run_of n s fresh)) (page ++ lines_of answers_from_lem.0), length-append count (lines_of (run_of n s fresh)))

  -- and after it either more answers are shown, or all
  pub shown_more : Shown s (n + m) (written + length page)
  unfolding Shown
  shown_more =
      let e = ap (λ (l : List Answer). length (lines_of l)) (a.on m) ∙ ap length (lines_append (run_of n s fresh) (run_of m s st)) in
      omega (arith, length-append (lines_of (run_of n s fresh)) page)

  pub shown_all : length (run_of m s st) < m → written + length page ≡ length (output_of s)
  unfolding Shown output_of attrs_answers
  shown_all few =
      let e : attrs_answers s ≡ run_of n s fresh ++ run_of m s st = stand_last s fresh n st a m few in
      let l = ap (λ (l : List Answer). length (lines_of l)) e ∙ ap length (lines_append (run_of n s fresh) (run_of m s st)) in
      omega (arith, length-append (lines_of (run_of n s fresh)) page, length-append count (lines_of (attrs_answers s)))

-- what stands at the front of the text
pub front_is : (text page : List ℕ) {n : ℕ} → n ≡ length page → take n (over text 0 page) ≡ page
unfolding over
front_is text page {n} e = take_at page (drop (0 + length page) text) n (sym e)

pub page_fits : (s : List ℕ) (st : IterState) (text : List ℕ) → 107 * 256 ≤ length text → length (lines_of (run_of 256 s st)) ≤ length text
page_fits s st text h = omega (arith, lines_most (run_of 256 s st), run_most 256 s st)
