-- From the fresh resolver on: what a history of calls leaves, seen as scopes, is what the calls leave standing.
use Prim.Native.Nat.{◌+◌}
use mathlib.Core.Path.{◌≡◌, refl, ap, ◌∙◌}
use mathlib.Core.List.{List, [], ◌∷◌}
use lib.ListN.{length}
use Rattle.scan.specs.Lists.{list_to}
use Rattle.scope_table.specs.Table.{fresh_of}
use Rattle.scope_table.specs.declared.NamespaceResolver.{NamespaceResolver}
use Rattle.scope_table.specs.Answer.{NamespaceResult}
use Rattle.scope_table.proofs.Good.{form_of_lem}
use Rattle.law_scopes.specs.Calls.{Call, call_of, left_by, answers_by}
use Rattle.law_scopes.specs.Scopes.{Made, Scopes, ScopesTold, no_scopes, size_of, scopes_after, answers_in}
use Rattle.law_scopes.specs.Made.{made_in, scopes_of, seen}
use Rattle.law_scopes.specs.Promises.{Proper, ValidStays, ReachedValid, ScopesFollow, Sums, ScopeSums, AnswersFollow}
use Rattle.law_scopes.proofs.Valid.{fresh_proper, valid_stays, reached_valid}
use Rattle.law_scopes.proofs.Made.{used_sum, count_sum}
use Rattle.law_scopes.proofs.Follow.{scopes_follow}

-- what a resolver that is seen as t counts
pub sums_of : (x : NamespaceResolver) (t : Scopes) → Proper x → scopes_of x ≡ t → Sums x t
unfolding scopes_of
sums_of x t g e =
    let f = form_of_lem x g.valid in
    let b : made_in x ≡ t.bound = ap (λ (s : Scopes). s.bound) e in
    record {
      text = used_sum x g.sized f ∙ ap (λ (l : List Made). 73 + size_of l) b;
      records = count_sum x g.sized f ∙ ap (λ (l : List Made). 2 + length l) b;
      bindings = b;
      level = ap (λ (s : Scopes). s.level) e;
      limit = ap (λ (s : Scopes). s.limit) e;
    }

-- the fresh resolver holds nothing but what is built in
pub fresh_none : scopes_of fresh_of ≡ no_scopes
unfolding scopes_of fresh_of made_in list_to no_scopes
fresh_none = refl

pub left_standing : (calls : List Call) (x : NamespaceResolver) → Proper x → scopes_of (left_by calls x) ≡ scopes_after calls (scopes_of x)
unfolding left_by scopes_after ValidStays ScopesFollow seen
left_standing [] x g = refl
left_standing (c ∷ more) x g =
    left_standing more (call_of c x).resolver (valid_stays x g c) ∙ ap (λ (r : ScopesTold). scopes_after more r.scopes) (scopes_follow x g c)

answers_standing : (calls : List Call) (x : NamespaceResolver) → Proper x → answers_by calls x ≡ answers_in calls (scopes_of x)
unfolding answers_by answers_in ValidStays ScopesFollow seen
answers_standing [] x g = refl
answers_standing (c ∷ more) x g =
    ap {B = List NamespaceResult} (λ r. (call_of c x).answer ∷ r) (answers_standing more (call_of c x).resolver (valid_stays x g c))
    ∙ ap (λ (r : ScopesTold). r.answer ∷ answers_in more r.scopes) (scopes_follow x g c)

pub scope_sums : ScopeSums
unfolding ScopeSums ReachedValid
scope_sums calls =
    sums_of (left_by calls fresh_of) (scopes_after calls no_scopes) (reached_valid calls)
    (left_standing calls fresh_of fresh_proper ∙ ap (scopes_after calls) fresh_none)

pub answers_follow : AnswersFollow
unfolding AnswersFollow
answers_follow calls = answers_standing calls fresh_of fresh_proper ∙ ap (answers_in calls) fresh_none
