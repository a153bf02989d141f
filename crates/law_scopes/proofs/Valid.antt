-- Every call leaves a resolver that 20 does not refuse, and the fresh one is such a resolver.
use Prim.Native.Nat.{ℕ, zero, suc, ◌-◌, ◌≤◌, ◌<◌}
use mathlib.Core.Path.{◌≡◌, refl}
use mathlib.Core.List.{List, [], ◌∷◌}
use native.Mathlib.Omega.{arith}
use lib.Dec.{leb}
use lib.ListN.{replicate}
use lib.Seq.{take_at}
use borrow.Author.Tests.{leb-false}
use Rattle.scan.proofs.Bytes.{same_refl}
use Rattle.scan.proofs.Laws.{picks}
use Rattle.scope_table.specs.Records.{record_at}
use Rattle.scope_table.specs.Table.{DEEPEST, built_in, text_of, level_before, is_record, fresh_of}
use Rattle.scope_table.specs.declared.NamespaceResolver.{NamespaceResolver}
use Rattle.scope_table.specs.declared.Changed.{Changed}
use Rattle.scope_table.proofs.Fresh.{built_in_length, fresh_bytes, fresh_numbers, fresh_rest_text, fresh_rest_records}
use Rattle.scope_table.proofs.Good.{Shaped, form_of_lem, valid_of_lem}
use Rattle.scope_change.specs.Change.{bound_of, level_of, dropped_of}
use Rattle.scope_declare.specs.Declare.{add_of, pop_of, limited_of}
use Rattle.scope_push.specs.Push.{declarations_of, tag_answers, raised_of, push_of}
use Rattle.law_scopes.specs.Sized.{Sized}
use Rattle.law_scopes.specs.Calls.{Call, add, push, pop, set_level, set_limit, call_of, left_by}
use Rattle.law_scopes.specs.Promises.{Proper, ValidStays, ReachedValid}
use Rattle.law_scopes.proofs.Bound.{Takes, bound_sized, bound_form}
use Rattle.law_scopes.proofs.Kept.{dropped_sized, dropped_form}
use Rattle.law_scopes.proofs.Declared.{declare_keeps, all_keep}

-- The changes.

pub bound_proper : (x : NamespaceResolver) (p v : List ℕ) → Takes x p v → Proper x → Proper (bound_of p v x)
bound_proper x p v r g =
    record { sized = bound_sized x g.sized p v r; valid = valid_of_lem _ (bound_form x g.sized p v r (form_of_lem x g.valid)) }

dropped_proper : (x : NamespaceResolver) (to : ℕ) → to ≤ DEEPEST → Proper x → Proper (dropped_of to x)
dropped_proper x to d g =
    let f = form_of_lem x g.valid in
    record { sized = dropped_sized x g.sized f to; valid = valid_of_lem _ (dropped_form x g.sized f to d) }

level_proper : (x : NamespaceResolver) (to : ℕ) → to ≤ DEEPEST → Proper x → Proper (level_of to x).resolver
unfolding level_of
level_proper x to d g = rw g.valid (dropped_proper x to d g)

-- what is not above a level is not above the next
pub raised_proper : (x : NamespaceResolver) → x.head.level < DEEPEST → Proper x → Proper (raised_of x)
unfolding raised_of
raised_proper x d g =
    let s = g.sized in
    let f = form_of_lem x g.valid in
    record {
      sized = record { text = s.text; records = s.records };
      valid = valid_of_lem _ (record {
        small = f.small;
        few = f.few;
        deep = omega arith;
        two = f.two;
        opening = f.opening;
        xml = f.xml;
        xmlns = f.xmlns;
        links = f.links;
        ends = f.ends;
        rises = f.rises;
        top = λ k h. omega (arith, f.top k h);
        rest_text = f.rest_text;
        rest_records = f.rest_records;
      });
    }

pub limited_sized : (x : NamespaceResolver) (limit : ℕ) → Sized x → Sized (limited_of limit x)
unfolding limited_of
limited_sized x limit s = record { text = s.text; records = s.records }

-- the limit is not judged
pub limited_proper : (x : NamespaceResolver) (limit : ℕ) → Proper x → Proper (limited_of limit x)
unfolding limited_of
limited_proper x limit g =
    let s = g.sized in
    let f = form_of_lem x g.valid in
    record {
      sized = record { text = s.text; records = s.records };
      valid = valid_of_lem _ (record {
        small = f.small;
        few = f.few;
        deep = f.deep;
        two = f.two;
        opening = f.opening;
        xml = f.xml;
        xmlns = f.xmlns;
        links = f.links;
        ends = f.ends;
        rises = f.rises;
        top = f.top;
        rest_text = f.rest_text;
        rest_records = f.rest_records;
      });
    }

-- The calls.

pub valid_stays : ValidStays
unfolding ValidStays call_of add_of push_of pop_of
valid_stays x g (add d p v) = rw g.valid (declare_keeps Proper bound_proper x d p v _ g)
valid_stays x g (push s from) =
    rw g.valid (picks (λ (c : Changed). Proper c.resolver) (leb DEEPEST x.head.level) (λ e. g)
    (λ e. all_keep Proper bound_proper (declarations_of s (tag_answers s from)) (raised_of x) (raised_proper x (leb-false DEEPEST x.head.level e) g)))
valid_stays x g pop = level_proper x (x.head.level - 1) (omega (arith, (form_of_lem x g.valid).deep)) g
valid_stays x g (set_level to d) = level_proper x to d g
valid_stays x g (set_limit limit) = limited_proper x limit g

-- The fresh resolver.

fresh_two : (P : ℕ → Type 0) → P 0 → P 1 → (k : ℕ) → k < 2 → P k
fresh_two P a b zero h = a
fresh_two P a b (suc zero) h = b
fresh_two P a b (suc (suc k)) h = absurd (omega arith)

fresh_form : Shaped fresh_of
unfolding fresh_of is_record text_of level_before
fresh_form =
    record {
      small = omega arith;
      few = omega arith;
      deep = omega arith;
      two = omega arith;
      opening = rw (take_at built_in (replicate 65463 0) 73 built_in_length) (same_refl built_in);
      xml = refl;
      xmlns = refl;
      links = fresh_two (λ k. (record_at fresh_of.records k).start ≡ text_of (record_at fresh_of.records) k) refl refl;
      ends = refl;
      rises = fresh_two (λ k. level_before (record_at fresh_of.records) k ≤ (record_at fresh_of.records k).level) (omega arith) (omega arith);
      top = fresh_two (λ k. (record_at fresh_of.records k).level ≤ 0) (omega arith) (omega arith);
      rest_text = fresh_rest_text;
      rest_records = fresh_rest_records;
    }

pub fresh_proper : Proper fresh_of
fresh_proper =
    record {
      sized = record {
        text = fresh_bytes;
        records = fresh_numbers;
      };
      valid = valid_of_lem fresh_of fresh_form;
    }

left_proper : (calls : List Call) (x : NamespaceResolver) → Proper x → Proper (left_by calls x)
unfolding left_by ValidStays
left_proper [] x g = g
left_proper (c ∷ more) x g = left_proper more (call_of c x).resolver (valid_stays x g c)

pub reached_valid : ReachedValid
unfolding ReachedValid
reached_valid calls = left_proper calls fresh_of fresh_proper
