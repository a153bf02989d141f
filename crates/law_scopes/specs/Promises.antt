-- What is promised of calls one after another.
use Rattle.std.specs.Prelude.{ℕ, ◌+◌, ◌-◌, ◌≤◌, ◌<◌, ◌≡◌, true, false, List, ◌↔◌, length, take, Ok, Err, Option, Some}
use Rattle.name.specs.declared.PrefixDeclaration.{PrefixDeclaration}
use Rattle.name.specs.Reserved.{xml_prefix, xmlns_prefix, xml_uri, xmlns_uri}
use Rattle.scope_table.specs.Table.{TEXT, RECORDS, DEEPEST, valid_of, fresh_of}
use Rattle.scope_table.specs.Answer.{changed}
use Rattle.scope_table.specs.declared.NamespaceResolver.{NamespaceResolver}
use Rattle.scope_table.specs.declared.NamespaceError.TheVariants.{TooManyBindings, BindingTableFull, TextFull, BadResolver, LendMore, WrongLength}
use Rattle.scope_declare.specs.Declare.{wholly, judge_of, add_of, pop_of}
use Rattle.scope_push.specs.Push.{push_of}
use Rattle.law_scopes.specs.Sized.{Sized}
use Rattle.law_scopes.specs.Calls.{Call, call_of, tests_form, left_by, answers_by}
use Rattle.law_scopes.specs.Scopes.{made, Scopes, no_scopes, size_of, call_in, scopes_after, answers_in}
use Rattle.law_scopes.specs.Made.{made_at, made_in, scopes_of, seen}

-- A push and then a pop give back the resolver as it was, every place of every array, at every level below the deepest
-- and for every tag: whether the push succeeds, or is refused with some of the tag's declarations already in.
unfoldable pub PushPopReturns : Type 0
PushPopReturns =
    (x : NamespaceResolver) → Sized x → valid_of x ≡ true → x.head.level < DEEPEST → (tag : List ℕ) (from : ℕ) →
    pop_of (push_of tag from x).resolver ≡ changed (Ok tt) x

-- What 20 does not refuse, and the sizes of its arrays with it.
pub record Proper (x : NamespaceResolver) : Type 0 where
  pub sized : Sized x
  pub valid : valid_of x ≡ true

-- Every call, refused or not, leaves a resolver that 20 does not refuse.
unfoldable pub ValidStays : Type 0
ValidStays = (x : NamespaceResolver) → Proper x → (c : Call) → Proper (call_of c x).resolver

-- So whatever calls make of the fresh one is such a resolver.
unfoldable pub ReachedValid : Type 0
ReachedValid = (calls : List Call) → Proper (left_by calls fresh_of)

-- 20 comes exactly on the others, which it leaves as they were.
unfoldable pub BadStays : Type 0
BadStays = (x : NamespaceResolver) → valid_of x ≡ false → (c : Call) → tests_form c ≡ true → call_of c x ≡ changed (Err BadResolver) x

unfoldable pub BadOnly : Type 0
BadOnly = (x : NamespaceResolver) → valid_of x ≡ true → (c : Call) → (call_of c x).answer ≡ Err BadResolver → ⊥

-- No call, refused by 20 or not, changes the size of an array.
unfoldable pub SizedStays : Type 0
SizedStays = (x : NamespaceResolver) → Sized x → (c : Call) → Sized (call_of c x).resolver

-- The two answers of lent memory, 98 and 99, are no call's on a resolver itself.
unfoldable pub NeverLends : Type 0
NeverLends =
    (x : NamespaceResolver) (c : Call) → ((call_of c x).answer ≡ Err LendMore → ⊥) × ((call_of c x).answer ≡ Err WrongLength → ⊥)

-- `add` on a resolver that 20 does not refuse, of a binding that 12 to 15 let through, under the first n bytes of the prefix:
-- all of it, or none for a default. 16 comes next: exactly if the bindings, the built-ins not counted, have reached the limit.
unfoldable pub SixteenExactly : Type 0
SixteenExactly =
    (x : NamespaceResolver) → valid_of x ≡ true →
    (d : Option PrefixDeclaration) (prefix value : List ℕ) (n : ℕ) → judge_of d prefix value (wholly prefix value) ≡ Ok (Some n) →
    (add_of d prefix value x).answer ≡ Err (TooManyBindings x.head.limit) ↔ (x.head.limit ≤ x.head.count - 2)

-- Where 16 does not come, 18 comes exactly if all 1,026 records are in use.
unfoldable pub EighteenExactly : Type 0
EighteenExactly =
    (x : NamespaceResolver) → valid_of x ≡ true →
    (d : Option PrefixDeclaration) (prefix value : List ℕ) (n : ℕ) → judge_of d prefix value (wholly prefix value) ≡ Ok (Some n) →
    (add_of d prefix value x).answer ≡ Err BindingTableFull ↔ ((x.head.count - 2 < x.head.limit) × (x.head.count ≡ RECORDS))

-- Where neither comes, so that a record is free, 19 comes exactly if text used plus both lengths exceeds 65,536.
unfoldable pub NineteenExactly : Type 0
NineteenExactly =
    (x : NamespaceResolver) → valid_of x ≡ true →
    (d : Option PrefixDeclaration) (prefix value : List ℕ) (n : ℕ) → judge_of d prefix value (wholly prefix value) ≡ Ok (Some n) →
    (add_of d prefix value x).answer ≡ Err TextFull
    ↔ ((x.head.count - 2 < x.head.limit)
    × ((x.head.count < RECORDS) × (TEXT < x.head.used + (length (take n prefix) + length value))))

-- Each call does to a resolver what it does to the list of bindings that the resolver holds, with the same answer: `add`
-- appends one, `push` those of the tag up to the first refusal, a level keeps those made at it or below.
unfoldable pub ScopesFollow : Type 0
ScopesFollow = (x : NamespaceResolver) → Proper x → (c : Call) → seen (call_of c x) ≡ call_in c (scopes_of x)

-- The two records before that list are the built-ins, at level 0.
unfoldable pub BuiltInsStand : Type 0
BuiltInsStand =
    (x : NamespaceResolver) → Proper x → (made_at x 0 ≡ made xml_prefix xml_uri 0) × (made_at x 1 ≡ made xmlns_prefix xmlns_uri 0)

-- And that list, with the level and the limit, is all that a resolver holds: two that are seen alike are the same, every
-- place of every array.
unfoldable pub ScopesDetermine : Type 0
ScopesDetermine = (x y : NamespaceResolver) → Proper x → Proper y → scopes_of x ≡ scopes_of y → x ≡ y

-- The counts of a resolver are the sums over what stands, and its bindings are those in order.
pub record Sums (x : NamespaceResolver) (t : Scopes) : Type 0 where
  pub text : x.head.used ≡ 73 + size_of t.bound
  pub records : x.head.count ≡ 2 + length t.bound
  pub bindings : made_in x ≡ t.bound
  pub level : x.head.level ≡ t.level
  pub limit : x.head.limit ≡ t.limit

-- After any calls on the fresh resolver text used and the number of records are the sums over the declarations that
-- were accepted and not popped since.
unfoldable pub ScopeSums : Type 0
ScopeSums = (calls : List Call) → Sums (left_by calls fresh_of) (scopes_after calls no_scopes)

-- And every answer on the way is the one that the list of those declarations gives.
unfoldable pub AnswersFollow : Type 0
AnswersFollow = (calls : List Call) → answers_by calls fresh_of ≡ answers_in calls no_scopes
