-- No quote branch of the crate's skip from `=` occurs: a state that 7 does not answer has `=` at such a place, and `=` is neither
-- whitespace nor a quote.
use Prim.Native.Nat.{ℕ, ◌<◌}
use mathlib.Core.Path.{◌≡◌, refl, ap, subst, ◌∙◌}
use mathlib.Core.Bool.{true, false}
use mathlib.Core.List.{List}
use lib.ListN.{length, get_or}
use borrow.Author.Tests.{lt-ltb}
use Rattle.scan.specs.First.{first_from}
use Rattle.scan.specs.Bytes.{not_space}
use Rattle.scan.proofs.Laws.{hit}
use Rattle.scan.proofs.Bytes.{both, eq_content}
use Rattle.tag_keys.specs.Keys.{table_good}
use Rattle.tag_step.specs.declared.Place.{Place}
use Rattle.tag_step.specs.declared.Place.TheVariants.{SkipEqValue}
use Rattle.tag_step.specs.Read.{is_quote}
use Rattle.tag_step.specs.Next.{place_good, state_good}
use Rattle.law_steps.specs.DeadQuotes.{other, skip_arm_at, skip_arm_of, skip_arm_goes, crate_skip_eq_value_of, PlainSkip, DeadQuotes}
use Rattle.law_steps.proofs.Refusals.{skips_eq}

eq_no_quote : is_quote 61 ≡ false
unfolding is_quote
eq_no_quote = refl

module _ (s : List ℕ) (o : ℕ) (inside : o < length s) (equals : get_or s o 0 ≡ 61) where
  found_first : first_from not_space s o ≡ o
  found_first = hit not_space s o inside (ap not_space equals ∙ eq_content)

  no_quote : is_quote (get_or s o 0) ≡ false
  no_quote = ap is_quote equals ∙ eq_no_quote

  plain_arm : skip_arm_of s o ≡ other o
  unfolding skip_arm_of skip_arm_at
  plain_arm = rw (found_first, lt-ltb o (length s) inside, no_quote)

  plain_skip : PlainSkip s o
  unfolding crate_skip_eq_value_of skip_arm_goes
  plain_skip =
      record {
        inside = inside;
        equals = equals;
        first = found_first;
        unquoted = rw found_first no_quote;
        arm = plain_arm;
        skips = rw plain_arm;
      }

pub dead_quotes : DeadQuotes
unfolding DeadQuotes state_good
dead_quotes s st good o e =
    let tables = table_good s st.starts st.ends st.hashes st.count in
    let stands : place_good s (SkipEqValue o) ≡ true = subst (λ (p : Place). place_good s p ≡ true) e (both tables (place_good s st.place) good).1 in
    let at = skips_eq s st o stands in
    plain_skip s o at.0 at.1
