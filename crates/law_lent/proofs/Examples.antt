-- The theorems at work on short memory: 16 numbers are the records of a tag with two declarations, and 76 bytes are its text
-- with the built-ins' 73; 75 are one too few.
use Prim.Native.Nat.{ℕ, ◌+◌}
use mathlib.Core.Path.{◌≡◌, refl, ap, ◌∙◌}
use mathlib.Core.Bool.{Bool, true, false}
use mathlib.Core.List.{List, [], ◌∷◌}
use native.Mathlib.Omega.{arith}
use lib.ListN.{length, replicate, length-replicate}
use Rattle.std.specs.Prelude.{Ok, Err}
use Rattle.scan.specs.Bytes.{bytes, bytes_from}
use Rattle.scan.specs.Lists.{pad_to}
use Rattle.scope_table.specs.Table.{TEXT, NUMBERS, LIMIT, head_of, fresh_of, is_table, valid_of}
use Rattle.scope_table.specs.Answer.{changed, NamespaceResult}
use Rattle.scope_table.specs.Lent.{stands_for, holds_of, fits_of, Given, given, held_of, lent_of, fresh_in, lent}
use Rattle.scope_table.specs.declared.NamespaceResolver.{NamespaceResolver}
use Rattle.scope_table.specs.declared.Changed.{Changed}
use Rattle.scope_table.specs.declared.NamespaceError.TheVariants.{LendMore}
use Rattle.scope_table.proofs.Good.{ready}
use Rattle.scope_table.proofs.Pad.{pad_table}
use Rattle.scope_table.proofs.Full.{full_is, full_asks, lent_again}
use Rattle.law_scopes.specs.Calls.{Call, push, pop, call_of, left_by, set_limit}
use Rattle.law_scopes.specs.Scopes.{Made, made, scopes, ScopesTold, told, no_scopes, size_of, call_in, scopes_after, answers_in}
use Rattle.law_scopes.specs.Made.{seen}
use Rattle.law_scopes.specs.Promises.{ScopesFollow, ScopeSums, SizedStays}
use Rattle.law_scopes.proofs.Valid.{fresh_proper}
use Rattle.law_scopes.proofs.Follow.{scopes_follow}
use Rattle.law_scopes.proofs.Sums.{fresh_none, scope_sums}
use Rattle.law_scopes.proofs.Examples.{history_example}
use Rattle.law_scopes.proofs.Twenty.{sized_stays}
use Rattle.law_lent.specs.Run.{next_lent, lent_answers}
use Rattle.law_lent.specs.Follows.{LentLeft, RunOn, LentRun, LentFresh, LentReached, LentPushPop, FullNeverLends, Longer, CallsAgain, LentLimit, FullNeverWrong, AsksAgain}
use Rattle.law_lent.proofs.Held.{call_left, call_more}
use Rattle.law_lent.proofs.Run.{lent_run, lent_fresh, lent_reached, lent_push_pop, lent_limit}
use Rattle.law_lent.proofs.Full.{full_never_lends, full_never_wrong}
use Rattle.law_lent.proofs.Again.{calls_again, asks_again}
use Rattle.scope_declare.proofs.Examples.{bare, bare_valid}

abbrev opening : Call
opening = push (bytes " xmlns=\"u\" xmlns:p=\"v\"") 0

abbrev both : List Made
both = made [] (bytes "u") 1 ∷ made (bytes "p") (bytes "v") 1 ∷ []

-- what it is on the fresh resolver
opened : call_in opening no_scopes ≡ told (Ok tt) (scopes both 1 LIMIT)
opened = history_example.4

used_after : (call_of opening fresh_of).resolver.head.used ≡ 76
unfolding left_by scopes_after ScopeSums size_of bytes bytes_from
used_after = (scope_sums (opening ∷ [])).text ∙ ap (λ (t : ScopesTold). 73 + size_of t.scopes.bound) opened

count_after : (call_of opening fresh_of).resolver.head.count ≡ 4
unfolding left_by scopes_after ScopeSums
count_after = (scope_sums (opening ∷ [])).records ∙ ap (λ (t : ScopesTold). 2 + length t.scopes.bound) opened

-- A fresh resolver in so many bytes.
abbrev rows : List ℕ
rows = replicate 16 0

abbrev memory : ℕ → Given
memory n = fresh_in (replicate n 0) rows (head_of 0 0 0 0)

abbrev Fresh : ℕ → Type 0
Fresh n = LentLeft (replicate n 0) rows (changed (Ok tt) fresh_of) (memory n)

fresh_76 : Fresh 76
unfolding LentFresh fresh_in held_of fits_of holds_of fresh_of
fresh_76 = lent_fresh (replicate 76 0) rows (head_of 0 0 0 0) refl

fresh_75 : Fresh 75
unfolding LentFresh fresh_in held_of fits_of holds_of fresh_of
fresh_75 = lent_fresh (replicate 75 0) rows (head_of 0 0 0 0) refl

module _ (n : ℕ) (f : Fresh n) where
  abbrev after : Changed
  after = call_of opening (stands_for (memory n).text (memory n).records (memory n).head)

  abbrev used_is : after.resolver.head.used ≡ 76
  used_is = ap (λ (x : NamespaceResolver). (call_of opening x).resolver.head.used) f.kept.stands ∙ used_after

  abbrev count_is : after.resolver.head.count ≡ 4
  count_is = ap (λ (x : NamespaceResolver). (call_of opening x).resolver.head.count) f.kept.stands ∙ count_after

  bytes_are : length (memory n).text ≡ n
  bytes_are = f.kept.text_length ∙ length-replicate {A = ℕ} n 0

  -- whether the memory holds what the tag leaves
  holds_is : (t : Bool) → fits_of n 16 76 4 ≡ t → fits_of (length (memory n).text) (length (memory n).records) after.resolver.head.used after.resolver.head.count ≡ t
  holds_is t e =
      let r : length (memory n).records ≡ 16 = f.kept.records_length in
      rw (used_is, count_is, bytes_are, r) e

-- 76 bytes hold it
held : LentLeft (memory 76).text (memory 76).records (after 76 fresh_76) (next_lent opening (memory 76))
unfolding next_lent fits_of holds_of
held = call_left (memory 76).text (memory 76).records (memory 76).head fresh_76.kept.ready opening (holds_is 76 fresh_76 true refl)

answer_after : (call_of opening fresh_of).answer ≡ Ok tt
unfolding ScopesFollow seen
answer_after = ap (λ (t : ScopesTold). t.answer) (scopes_follow fresh_of fresh_proper opening ∙ ap (call_in opening) fresh_none ∙ opened)

pub lent_follows_instance : (next_lent opening (memory 76)).answer ≡ Ok tt
lent_follows_instance = held.answer ∙ ap (λ (x : NamespaceResolver). (call_of opening x).answer) fresh_76.kept.stands ∙ answer_after

-- 75 do not, and stay as they were
pub lends_more_instance : next_lent opening (memory 75) ≡ given (Err LendMore) (memory 75).text (memory 75).records (memory 75).head
unfolding next_lent fits_of holds_of
lends_more_instance = call_more (memory 75).text (memory 75).records (memory 75).head fresh_75.kept.ready opening (holds_is 75 fresh_75 false refl)

done_only : (a : NamespaceResult) → a ≡ Ok tt → a ≡ Err LendMore → ⊥
done_only a d e =
    let z : ◌≡◌ {A = ℕ} 0 1 = cc in
    absurd (omega arith)

fresh_level : (memory 76).head.level ≡ 0
unfolding fresh_of
fresh_level = ap (λ (x : NamespaceResolver). x.head.level) fresh_76.kept.stands

pub lent_push_pop_instance : next_lent pop (next_lent opening (memory 76)) ≡ given (Ok tt) (memory 76).text (memory 76).records (memory 76).head
unfolding LentPushPop next_lent call_of
lent_push_pop_instance =
    lent_push_pop (memory 76).text (memory 76).records (memory 76).head fresh_76.kept.ready (omega (arith, fresh_level))
    (bytes " xmlns=\"u\" xmlns:p=\"v\"") 0 (done_only (next_lent opening (memory 76)).answer lent_follows_instance)

pub lent_reached_instance : lent_answers (opening ∷ []) (memory 76) ≡ answers_in (opening ∷ []) no_scopes
unfolding LentReached lent_answers fresh_in held_of fits_of holds_of fresh_of
lent_reached_instance = (lent_reached (replicate 76 0) rows (head_of 0 0 0 0) refl (opening ∷ []) (done_only (next_lent opening (memory 76)).answer lent_follows_instance, _)).1

-- the same call in a run, and the resolver that the memory stands for after it
pub lent_run_instance : RunOn (opening ∷ []) (memory 76).text (memory 76).records (stands_for (memory 76).text (memory 76).records (memory 76).head) (given (Ok tt) (memory 76).text (memory 76).records (memory 76).head)
unfolding LentRun lent_answers next_lent
lent_run_instance = lent_run (memory 76).text (memory 76).records (memory 76).head fresh_76.kept.ready (opening ∷ []) (done_only (next_lent opening (memory 76)).answer lent_follows_instance, _)

seventy_five : Longer (memory 75).text (memory 75).records 76 16
seventy_five =
    let r : length (memory 75).records ≡ 16 = fresh_75.kept.records_length in
    record { bytes_least = omega (arith, bytes_are 75 fresh_75); bytes_most = omega arith; numbers_least = omega arith; numbers_most = omega arith }

-- one byte more for the 75: the call that asked for more is the one that the fresh resolver has
pub calls_again_instance : (lent_of (call_of opening) (pad_to 76 (memory 75).text) (pad_to 16 (memory 75).records) (memory 75).head).answer ≡ Ok tt
unfolding CallsAgain fits_of holds_of
calls_again_instance =
    let g = memory 75 in
    ((calls_again g.text g.records g.head fresh_75.kept.ready 76 16 seventy_five opening).0 (rw (used_is 75 fresh_75, count_is 75 fresh_75))).answer
    ∙ ap (λ (x : NamespaceResolver). (call_of opening x).answer) fresh_75.kept.stands ∙ answer_after

-- full size, and nothing of it a resolver
pub full_never_lends_instance : (lent_of (call_of pop) (replicate TEXT 7) (replicate NUMBERS 7) (head_of 70000 5000 3 0)).answer ≡ Err LendMore → ⊥
unfolding FullNeverLends
full_never_lends_instance = (full_never_lends (replicate TEXT 7) (replicate NUMBERS 7) (head_of 70000 5000 3 0) (length-replicate {A = ℕ} TEXT 7) (length-replicate {A = ℕ} NUMBERS 7) pop).0

-- a call that asks, on that memory: it is not 99
pub full_never_wrong_instance : lent 99 (λ x. x.head.level) (replicate TEXT 7) (replicate NUMBERS 7) (head_of 70000 5000 3 0) ≡ 3
unfolding FullNeverWrong
full_never_wrong_instance = full_never_wrong (replicate TEXT 7) (replicate NUMBERS 7) (head_of 70000 5000 3 0) (length-replicate {A = ℕ} TEXT 7) (length-replicate {A = ℕ} NUMBERS 7) ℕ 99 (λ x. x.head.level)

-- The fresh resolver as memory of full size: a call that asks, and the tag's push, are those on the resolver.

pub full_asks_instance : lent 99 (λ x. x.head.count) fresh_of.text fresh_of.records fresh_of.head ≡ 2
unfolding fresh_of
full_asks_instance = full_asks fresh_of.text fresh_of.records fresh_of.head fresh_proper.sized.text fresh_proper.sized.records 99 (λ x. x.head.count)

pub full_is_instance : (lent_of (call_of opening) fresh_of.text fresh_of.records fresh_of.head).answer ≡ Ok tt
unfolding SizedStays
full_is_instance =
    let s = sized_stays fresh_of fresh_proper.sized opening in
    ap (λ (g : Given). g.answer) (full_is fresh_of.text fresh_of.records fresh_of.head fresh_proper.sized.text fresh_proper.sized.records (call_of opening) s.text s.records)
    ∙ answer_after

-- The 75 bytes with one more still stand for the fresh resolver, and a call that asks answers the same.

pub lent_again_instance : stands_for (pad_to 76 (memory 75).text) (pad_to 16 (memory 75).records) (memory 75).head ≡ fresh_of
lent_again_instance =
    let l = seventy_five in
    lent_again 76 16 (memory 75).text (memory 75).records (memory 75).head l.bytes_least l.bytes_most l.numbers_least l.numbers_most
    ∙ fresh_75.kept.stands

pub asks_again_instance : lent 99 (λ x. x.head.level) (pad_to 76 (memory 75).text) (pad_to 16 (memory 75).records) (memory 75).head ≡ lent 99 (λ x. x.head.level) (memory 75).text (memory 75).records (memory 75).head
unfolding AsksAgain
asks_again_instance =
    let g = memory 75 in
    (asks_again g.text g.records g.head (ready g.text g.records g.head fresh_75.kept.ready).fit 76 16 seventy_five).2 ℕ 99 (λ x. x.head.level)

-- the limit, written into the head
pub lent_limit_instance : (lent_of (call_of (set_limit 500)) (memory 76).text (memory 76).records (memory 76).head).answer ≡ Ok tt
unfolding LentLimit
lent_limit_instance =
    let g = memory 76 in
    ap (λ (r : Given). r.answer) (lent_limit g.text g.records g.head (ready g.text g.records g.head fresh_76.kept.ready).fit 500)

-- the built-ins alone, with zeros after text and records
pub pad_table_instance : is_table (pad_to 100 bare.text) (pad_to 40 bare.records) bare.head ≡ true
unfolding valid_of
pad_table_instance = pad_table 100 40 bare.text bare.records bare.head ∙ bare_valid
