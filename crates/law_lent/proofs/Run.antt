-- Calls one after another on lent memory, by each call of them; and what is so shown of a push and a pop, and of a fresh
-- resolver.
use Prim.Native.Nat.{ℕ}
use mathlib.Core.Path.{◌≡◌, refl, sym, ap, subst, ◌∙◌}
use mathlib.Core.Bool.{Bool, true, false, ◌&&◌}
use mathlib.Core.List.{List, [], ◌∷◌}
use mathlib.Core.Logic.{⊎_elim}
use native.Mathlib.Omega.{arith}
use lib.ListN.{length, take}
use Rattle.std.specs.Prelude.{Ok, Err}
use Rattle.scan.specs.First.{pick}
use Rattle.scan.proofs.Lists.{pad_take}
use lib.Dec.{leb}
use Rattle.scope_table.specs.Table.{TEXT, NUMBERS, fresh_of}
use Rattle.scope_table.specs.Answer.{changed}
use Rattle.scope_table.specs.Lent.{stands_for, fits_of, Given, given, held_of, lent_of, fresh_in, form_of}
use Rattle.scope_table.specs.declared.Head.{Head}
use Rattle.scope_table.specs.declared.NamespaceResolver.{NamespaceResolver}
use Rattle.scope_table.specs.declared.Changed.{Changed}
use Rattle.scope_table.specs.declared.NamespaceError.TheVariants.{LendMore, WrongLength}
use Rattle.scope_table.proofs.Good.{ready}
use Rattle.scope_table.proofs.Calls.{changes}
use Rattle.scope_declare.specs.Declare.{pop_of, limited_of}
use Rattle.scope_push.specs.Push.{push_of}
use Rattle.law_scopes.specs.Calls.{Call, push, set_limit, call_of, left_by, answers_by}
use Rattle.law_scopes.specs.Scopes.{no_scopes, scopes_after}
use Rattle.law_scopes.specs.Promises.{Sums, PushPopReturns, ScopeSums, AnswersFollow}
use Rattle.law_scopes.proofs.Valid.{fresh_proper}
use Rattle.law_scopes.proofs.Returns.{push_pop_returns}
use Rattle.law_scopes.proofs.Sums.{scope_sums, answers_follow}
use Rattle.law_lent.specs.Run.{next_lent, lent_by, lent_answers, Enough}
use Rattle.law_lent.specs.Follows.{MemoryFor, LentLeft, LentFollows, RunOn, LentLimit, LentRun, LentFresh, LentReached, LentPushPop}
use Rattle.law_lent.proofs.Held.{held_kept, stands_proper, lent_follows}

-- a call that does not ask for more
pub left_of_lem : (text records : List ℕ) (head : Head) → form_of text records head ≡ Ok tt → (c : Call) →
    ((lent_of (call_of c) text records head).answer ≡ Err LendMore → ⊥) →
    LentLeft text records (call_of c (stands_for text records head)) (lent_of (call_of c) text records head)
unfolding LentFollows
left_of_lem text records head good c never =
    ⊎_elim (λ (e : lent_of (call_of c) text records head ≡ given (Err LendMore) text records head). absurd (never (ap (λ (g : Given). g.answer) e)))
    (λ (l : LentLeft text records (call_of c (stands_for text records head)) (lent_of (call_of c) text records head)). l)
    (lent_follows text records head good c)

-- memory that stands for a resolver, and the calls from there
run_from_lem : (calls : List Call) (text records : List ℕ) (x : NamespaceResolver) (g : Given) → MemoryFor text records x g →
    Enough (lent_answers calls g) → RunOn calls text records x g
unfolding next_lent lent_by lent_answers left_by answers_by
run_from_lem [] text records x g k h = record { answers = refl; kept = k }
run_from_lem (c ∷ more) text records x g k h =
    let l = left_of_lem g.text g.records g.head k.ready c h.0 in
    let e : call_of c (stands_for g.text g.records g.head) ≡ call_of c x = ap (call_of c) k.stands in
    let n = next_lent c g in
    let m : MemoryFor text records (call_of c x).resolver n =
    record {
      stands = l.kept.stands ∙ ap (λ (r : Changed). r.resolver) e;
      text_length = l.kept.text_length ∙ k.text_length;
      records_length = l.kept.records_length ∙ k.records_length;
      ready = l.kept.ready;
    } in
    let r = run_from_lem more text records (call_of c x).resolver n m h.1 in
    let a : n.answer ≡ (call_of c x).answer = l.answer ∙ ap (λ (r : Changed). r.answer) e in
    record { answers = rw (r.answers, a); kept = r.kept }

pub lent_run : LentRun
unfolding LentRun
lent_run text records head good calls enough =
    run_from_lem calls text records (stands_for text records head) (given (Ok tt) text records head)
    (record { stands = refl; text_length = refl; records_length = refl; ready = good }) enough

pub lent_limit : LentLimit
unfolding LentLimit call_of limited_of
lent_limit text records head fit limit =
    let x = stands_for text records head in
    sym (changes text records head fit (call_of (set_limit limit)) (Ok tt) (limited_of limit x) text records refl fit (pad_take TEXT text) (pad_take NUMBERS records))

-- The fresh resolver.

fresh_by_lem : (text records : List ℕ) (head : Head) (lent holds : Bool) →
    fits_of (length text) (length records) fresh_of.head.used fresh_of.head.count ≡ holds →
    let held = given (Ok tt) (take (length text) fresh_of.text) (take (length records) fresh_of.records) fresh_of.head in
    let g = pick lent (pick holds held (given (Err LendMore) text records head)) (given (Err WrongLength) text records head) in
    g.answer ≡ Ok tt → LentLeft text records (changed (Ok tt) fresh_of) g
fresh_by_lem text records head true true f e =
    record { answer = refl; kept = held_kept (length text) (length records) fresh_of fresh_proper text records (Ok tt) refl refl f }
fresh_by_lem text records head true false f e =
    let z : ◌≡◌ {A = ℕ} 0 1 = cc in
    absurd (omega arith)
fresh_by_lem text records head false holds f e =
    let z : ◌≡◌ {A = ℕ} 0 1 = cc in
    absurd (omega arith)

pub lent_fresh : LentFresh
unfolding LentFresh fresh_in held_of
lent_fresh text records head e =
    fresh_by_lem text records head (leb (length text) TEXT && leb (length records) NUMBERS)
    (fits_of (length text) (length records) fresh_of.head.used fresh_of.head.count) refl e

pub lent_reached : LentReached
unfolding LentReached LentFresh ScopeSums AnswersFollow
lent_reached text records head e calls enough =
    let f = lent_fresh text records head e in
    let r = run_from_lem calls text records fresh_of (fresh_in text records head) f.kept enough in
    (subst (λ (x : NamespaceResolver). Sums x (scopes_after calls no_scopes)) (sym r.kept.stands) (scope_sums calls), r.answers ∙ answers_follow calls, r.kept.ready)

-- A push and a pop.

pub lent_push_pop : LentPushPop
unfolding LentPushPop PushPopReturns call_of
lent_push_pop text records head good d tag from never =
    let x = stands_for text records head in
    let g = lent_of (push_of tag from) text records head in
    let k = (left_of_lem text records head good (push tag from) never).kept in
    let p = stands_proper text records head good in
    let back : pop_of (stands_for g.text g.records g.head) ≡ changed (Ok tt) x = ap pop_of k.stands ∙ push_pop_returns x p.sized p.valid d tag from in
    let fit : fits_of (length g.text) (length g.records) head.used head.count ≡ true = rw (k.text_length, k.records_length) (ready text records head good).fit in
    sym (changes g.text g.records g.head (ready g.text g.records g.head k.ready).fit pop_of (Ok tt) x text records back fit
    (rw k.text_length (pad_take TEXT text)) (rw k.records_length (pad_take NUMBERS records)))
