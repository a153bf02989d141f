-- The theorems at work: a history of calls by computation, resolvers of which the premises hold, and what each theorem says of
-- them. The tables that are full, for 18 and 19, are reached by calls and never written out.
use Prim.Native.Nat.{ℕ, zero, suc, ◌+◌, ◌≤◌, ◌<◌}
use mathlib.Core.Path.{◌≡◌, refl, sym, ap, subst, ◌∙◌}
use mathlib.Core.Bool.{true, false}
use mathlib.Core.List.{List, [], ◌∷◌, ◌++◌}
use native.Mathlib.Omega.{arith}
use lib.ListN.{length, replicate, length-append, length-replicate}
use borrow.Author.Tests.{lt-leb, le-ltb}
use Rattle.std.specs.Prelude.{Ok, Err, Some}
use Rattle.scan.specs.First.{first_of, first_to, first_from}
use Rattle.scan.specs.Bytes.{is_space, not_space, ends_key, is_byte, part, inside, same_bytes, bytes_from, bytes}
use Rattle.tag_keys.specs.Keys.{key_good, key_bad, count_good, table_good, name_at, same_key, oldest_of, earlier_of, checked_by, checked_of, written_by, count_by}
use Rattle.tag_step.specs.Read.{is_at, is_quote, skip_to, skip_of, recover_of, key_eq, key_to, key_from, key_at, quoted, closed_of, quoted_to, quoted_of, unquoted_to, other_of, value_by, value_from, value_at}
use Rattle.tag_step.specs.Next.{check_of, kept_by, place_at, bare_by, bare_to, bare_of, valued_by, valued_to, valued_of, read_key, read_at, step_from, step_of, place_good, keys_of, state_good, no_keys, bad_reading, leaves, next_of, opened}
use Rattle.tag_step.specs.Run.{is_end, cons_unless, run_of, answers_of}
use Rattle.tag_parts.specs.Parts.{key_part, value_part}
use Rattle.name.specs.Reserved.{xml_prefix, xmlns_prefix, xml_uri, xmlns_uri, is_xml, is_xmlns, is_xml_uri, is_xmlns_uri}
use Rattle.name.specs.Bind.{reserved_bind}
use Rattle.name.specs.Declares.{opening, is_named, declares_of, declared_prefix}
use Rattle.name.specs.declared.PrefixDeclaration.TheVariants.{Default, Named}
use Rattle.scope_table.specs.Table.{TEXT, RECORDS, LIMIT, head_of, resolver_of, is_within, opens_built_in, is_table, valid_of, fresh_of}
use Rattle.scope_table.specs.Lists.{last_below}
use Rattle.scope_table.specs.Answer.{changed}
use Rattle.scope_table.specs.declared.NamespaceResolver.{NamespaceResolver}
use Rattle.scope_table.specs.declared.NamespaceError.TheVariants.{InvalidXmlnsPrefixBind, TooManyBindings, BindingTableFull, TextFull, BadResolver, LendMore, WrongLength}
use Rattle.scope_change.specs.Change.{kept_at, dropped_of, level_of}
use Rattle.scope_declare.specs.Declare.{wholly, named_of, judge_of, add_of, pop_of}
use Rattle.scope_push.specs.Push.{declaration_of, declaration_then, declarations_of, tag_answers, push_of}
use Rattle.law_scopes.specs.Calls.{Call, add, push, pop, set_level, set_limit, call_of, tests_form, left_by, answers_by}
use Rattle.law_scopes.specs.Scopes.{Made, made, Scopes, scopes, ScopesTold, told, no_scopes, size_of, room_for, bind_in, settle_in, declare_in, declare_all_in, keeps, up_to, level_in, call_in, scopes_after, answers_in}
use Rattle.law_scopes.specs.Made.{made_at, seen}
use Rattle.law_scopes.specs.Promises.{PushPopReturns, ValidStays, ReachedValid, BadStays, BadOnly, SizedStays, NeverLends, SixteenExactly, EighteenExactly, NineteenExactly, ScopesFollow, BuiltInsStand, ScopesDetermine, ScopeSums, AnswersFollow}
use Rattle.law_scopes.specs.DeadClear.{clears_all, level_arm_by, level_arm_of, crate_set_level_of, DeadClear}
use Rattle.law_scopes.proofs.DeadClear.{dead_clear}
use Rattle.law_scopes.proofs.Valid.{fresh_proper, valid_stays, reached_valid}
use Rattle.law_scopes.proofs.Twenty.{bad_stays, bad_only, sized_stays, never_lends}
use Rattle.law_scopes.proofs.BuiltIn.{built_ins_stand}
use Rattle.law_scopes.proofs.Determine.{scopes_determine}
use Rattle.law_scopes.proofs.Follow.{scopes_follow}
use Rattle.law_scopes.proofs.Returns.{push_pop_returns}
use Rattle.law_scopes.proofs.Sums.{fresh_none, left_standing, scope_sums, answers_follow}
use Rattle.law_scopes.proofs.Exactly.{sixteen_exactly, eighteen_exactly, nineteen_exactly}

-- a tag, a tag in it that is refused half way, a declaration added there, and what comes then
abbrev outer_tag : List ℕ
outer_tag = bytes " xmlns=\"u\" xmlns:p=\"v\""

abbrev inner_tag : List ℕ
inner_tag = bytes " xmlns:q=\"w\" xmlns:xmlns=\"x\" xmlns:r=\"y\""

abbrev history : List Call → List Call
history more = push outer_tag 0 ∷ push inner_tag 0 ∷ add (Some Named) (bytes "s") (bytes "z") ∷ more

abbrev outer : List Made → List Made
outer more = made [] (bytes "u") 1 ∷ made (bytes "p") (bytes "v") 1 ∷ more

abbrev both : List Made
both = outer (made (bytes "q") (bytes "w") 2 ∷ made (bytes "s") (bytes "z") 2 ∷ [])

-- `q` stands, the reserved prefix is 13 with its value, and `r` is not come to; a pop leaves the outer tag's, and level 0 none
pub history_example :
    (answers_in (history []) no_scopes ≡ Ok tt ∷ Err (InvalidXmlnsPrefixBind 26 27) ∷ Ok tt ∷ [])
    × (scopes_after (history []) no_scopes ≡ scopes both 2 LIMIT)
    × (scopes_after (history (pop ∷ [])) no_scopes ≡ scopes (outer []) 1 LIMIT)
    × (scopes_after (history (pop ∷ pop ∷ [])) no_scopes ≡ no_scopes)
    × (call_in (push outer_tag 0) no_scopes ≡ told (Ok tt) (scopes (outer []) 1 LIMIT))
    × (size_of both ≡ 7)
    × (scopes_after (history (set_level 0 (omega arith) ∷ [])) no_scopes ≡ no_scopes)
unfolding first_of first_to first_from is_space not_space ends_key is_byte part same_bytes bytes_from bytes key_good key_bad count_good table_good name_at same_key oldest_of earlier_of checked_by checked_of written_by count_by is_at is_quote skip_to skip_of recover_of key_eq key_to key_from key_at quoted closed_of quoted_to quoted_of unquoted_to other_of value_by value_from value_at check_of kept_by place_at bare_by bare_to bare_of valued_by valued_to valued_of read_key read_at step_from step_of place_good keys_of state_good no_keys bad_reading leaves next_of opened is_end cons_unless run_of answers_of inside key_part value_part xml_prefix xmlns_prefix xml_uri xmlns_uri is_xml is_xmlns is_xml_uri is_xmlns_uri reserved_bind opening is_named declares_of declared_prefix named_of judge_of tag_answers declaration_of declaration_then declarations_of no_scopes size_of room_for bind_in settle_in declare_in declare_all_in keeps up_to level_in call_in scopes_after answers_in
history_example = (refl, refl, refl, refl, refl, refl, refl)

-- The fresh resolver, and what calls make of it.

pub push_pop_instance : pop_of (push_of inner_tag 0 fresh_of).resolver ≡ changed (Ok tt) fresh_of
unfolding PushPopReturns fresh_of
push_pop_instance = push_pop_returns fresh_of fresh_proper.sized fresh_proper.valid (omega arith) inner_tag 0

pub valid_stays_instance : valid_of (push_of inner_tag 0 fresh_of).resolver ≡ true
unfolding ValidStays call_of
valid_stays_instance = (valid_stays fresh_of fresh_proper (push inner_tag 0)).valid

pub reached_valid_instance : valid_of (left_by (history []) fresh_of) ≡ true
unfolding ReachedValid
reached_valid_instance = (reached_valid (history [])).valid

pub bad_only_instance : (add_of (Some Default) [] (bytes "u") fresh_of).answer ≡ Err BadResolver → ⊥
unfolding BadOnly call_of
bad_only_instance = bad_only fresh_of fresh_proper.valid (add (Some Default) [] (bytes "u"))

pub sized_stays_instance : length (pop_of fresh_of).resolver.text ≡ TEXT
unfolding SizedStays call_of
sized_stays_instance = (sized_stays fresh_of fresh_proper.sized pop).text

pub never_lends_instance : ((push_of inner_tag 0 fresh_of).answer ≡ Err LendMore → ⊥) × ((push_of inner_tag 0 fresh_of).answer ≡ Err WrongLength → ⊥)
unfolding NeverLends call_of
never_lends_instance = never_lends fresh_of (push inner_tag 0)

pub follow_instance : seen (push_of outer_tag 0 fresh_of) ≡ told (Ok tt) (scopes (outer []) 1 LIMIT)
unfolding ScopesFollow call_of
follow_instance = scopes_follow fresh_of fresh_proper (push outer_tag 0) ∙ ap (call_in (push outer_tag 0)) fresh_none ∙ history_example.4

pub built_ins_instance : (made_at fresh_of 0 ≡ made xml_prefix xml_uri 0) × (made_at fresh_of 1 ≡ made xmlns_prefix xmlns_uri 0)
unfolding BuiltInsStand
built_ins_instance = built_ins_stand fresh_of fresh_proper

-- two pops after two pushes: nothing stands, so it is the fresh resolver again
pub determine_instance : left_by (history (pop ∷ pop ∷ [])) fresh_of ≡ fresh_of
unfolding ScopesDetermine ReachedValid
determine_instance =
    let calls = history (pop ∷ pop ∷ []) in
    scopes_determine (left_by calls fresh_of) fresh_of (reached_valid calls) fresh_proper
    (left_standing calls fresh_of fresh_proper ∙ ap (scopes_after calls) fresh_none ∙ history_example.3 ∙ sym fresh_none)

pub sums_instance : ((left_by (history []) fresh_of).head.used ≡ 80) × ((left_by (history []) fresh_of).head.count ≡ 6)
unfolding ScopeSums
sums_instance =
    let s = scope_sums (history []) in
    let h : (scopes_after (history []) no_scopes).bound ≡ both = ap (λ (t : Scopes). t.bound) history_example.1 in
    let size : size_of both ≡ 7 = history_example.5 in (
      s.text ∙ ap (λ (l : List Made). 73 + size_of l) h ∙ omega arith,
      s.records ∙ ap (λ (l : List Made). 2 + length l) h,
    )

pub answers_instance : answers_by (history []) fresh_of ≡ Ok tt ∷ Err (InvalidXmlnsPrefixBind 26 27) ∷ Ok tt ∷ []
unfolding AnswersFollow
answers_instance = answers_follow (history []) ∙ history_example.0

-- One that 20 refuses: nothing is in use, not even the built-ins.

abbrev empty : NamespaceResolver
empty = resolver_of [] [] (head_of 0 0 0 LIMIT)

pub bad_stays_instance : push_of outer_tag 0 empty ≡ changed (Err BadResolver) empty
unfolding BadStays call_of tests_form valid_of is_table is_within opens_built_in
bad_stays_instance = bad_stays empty refl (push outer_tag 0) refl

-- The crate's `set_level`.

level_left : (x : NamespaceResolver) (level : ℕ) → valid_of x ≡ true → (level_of level x).resolver ≡ dropped_of level x
unfolding level_of
level_left x level valid = rw valid

-- level 0 within two tags: the built-ins stay, and it is the fresh resolver again
pub dead_clear_instance : crate_set_level_of 0 (left_by (history []) fresh_of) ≡ fresh_of
unfolding DeadClear ScopesDetermine ReachedValid left_by call_of
dead_clear_instance =
    let x = left_by (history []) fresh_of in
    let calls = history (set_level 0 (omega arith) ∷ []) in
    let valid : valid_of x ≡ true = (reached_valid (history [])).valid in
    let same : left_by calls fresh_of ≡ dropped_of 0 x = level_left x 0 valid in
    (dead_clear x valid 0).leaves ∙ sym same
    ∙ scopes_determine (left_by calls fresh_of) fresh_of (reached_valid calls) fresh_proper
    (left_standing calls fresh_of fresh_proper ∙ ap (scopes_after calls) fresh_none ∙ history_example.6 ∙ sym fresh_none)

-- where not even the built-ins are in use, everything would be cleared; but 20 refuses that resolver
pub clears_example : (level_arm_of 0 empty ≡ clears_all) × (valid_of empty ≡ false)
unfolding level_arm_by level_arm_of kept_at last_below valid_of is_table is_within opens_built_in
clears_example = (refl, refl)

-- 12 to 15 let this prefix through, whole.
p_binds : judge_of (Some Named) (bytes "p") (bytes "v") (wholly (bytes "p") (bytes "v")) ≡ Ok (Some 1)
unfolding judge_of named_of reserved_bind is_xml is_xmlns is_xml_uri is_xmlns_uri xml_prefix xmlns_prefix xml_uri xmlns_uri same_bytes bytes bytes_from
p_binds = refl

-- 16: with a limit of 0 there is room for none.

abbrev closed : List Call
closed = set_limit 0 ∷ []

pub sixteen_instance : (add_of (Some Named) (bytes "p") (bytes "v") (left_by closed fresh_of)).answer ≡ Err (TooManyBindings 0)
unfolding SixteenExactly ScopeSums ReachedValid scopes_after call_in no_scopes
sixteen_instance =
    let x = left_by closed fresh_of in
    let limit : x.head.limit ≡ 0 = (scope_sums closed).limit in
    (sixteen_exactly x (reached_valid closed).valid (Some Named) (bytes "p") (bytes "v") 1 p_binds).1 (omega arith) ∙ ap (λ (n : ℕ). Err (TooManyBindings n)) limit

-- 18: with a limit of 2,000, 1,024 bindings of no bytes fill the records.

abbrev one : Call
one = add (Some Default) [] []

one_in : (t : Scopes) → length t.bound < 1024 → length t.bound < t.limit → size_of t.bound ≡ 0 → call_in one t ≡ told (Ok tt) (bind_in t [] [])
unfolding call_in declare_in settle_in judge_of room_for
one_in t few within nothing =
    rw (lt-leb t.limit (length t.bound) within, lt-leb RECORDS (2 + length t.bound) (omega arith), le-ltb TEXT (73 + size_of t.bound + 0) (omega arith))

size_one : (l : List Made) (level : ℕ) → size_of (l ++ (made [] [] level ∷ [])) ≡ size_of l
unfolding size_of
size_one [] level = refl
size_one (b ∷ l) level = ap (λ (n : ℕ). length b.prefix + length b.value + n) (size_one l level)

record Grown (n : ℕ) (t u : Scopes) : Type 0 where
  bound : length u.bound ≡ length t.bound + n
  limit : u.limit ≡ t.limit

grown : (n : ℕ) (t : Scopes) → length t.bound + n ≤ 1024 → 1024 < t.limit → size_of t.bound ≡ 0 → Grown n t (scopes_after (replicate n one) t)
unfolding scopes_after bind_in
grown zero t few within nothing = record { bound = omega arith; limit = refl }
grown (suc n) t few within nothing =
    let u = bind_in t [] [] in
    let l : length u.bound ≡ length t.bound + 1 = length-append t.bound (made [] [] t.level ∷ []) in
    let g = grown n u (omega arith) within (size_one t.bound t.level ∙ nothing) in
    subst (λ (r : ScopesTold). Grown (suc n) t (scopes_after (replicate n one) r.scopes)) (sym (one_in t (omega arith) (omega arith) nothing))
    (record { bound = g.bound ∙ omega arith; limit = g.limit })

abbrev filling : List Call
filling = set_limit 2000 ∷ replicate 1024 one

pub eighteen_instance : (add_of (Some Named) (bytes "p") (bytes "v") (left_by filling fresh_of)).answer ≡ Err BindingTableFull
unfolding EighteenExactly ScopeSums ReachedValid scopes_after call_in no_scopes size_of
eighteen_instance =
    let x = left_by filling fresh_of in
    let s = scope_sums filling in
    let g = grown 1024 (scopes [] 0 2000) (omega arith) (omega arith) refl in
    let count : x.head.count ≡ RECORDS = s.records ∙ ap (λ (n : ℕ). 2 + n) g.bound in
    let limit : x.head.limit ≡ 2000 = s.limit ∙ g.limit in
    (eighteen_exactly x (reached_valid filling).valid (Some Named) (bytes "p") (bytes "v") 1 p_binds).1 (omega arith, count)

-- 19: one value of 65,463 bytes, 73 being built in, fills the text.

abbrev longest : Call
longest = add (Some Default) [] (replicate 65463 0)

long_in : (v : List ℕ) → length v ≡ 65463 → call_in (add (Some Default) [] v) no_scopes ≡ told (Ok tt) (bind_in no_scopes [] v)
unfolding call_in declare_in settle_in judge_of room_for no_scopes size_of
long_in v e = rw e

pub nineteen_instance : (add_of (Some Named) (bytes "p") (bytes "v") (left_by (longest ∷ []) fresh_of)).answer ≡ Err TextFull
unfolding NineteenExactly ScopeSums ReachedValid scopes_after bind_in no_scopes size_of bytes bytes_from
nineteen_instance =
    let x = left_by (longest ∷ []) fresh_of in
    let s = scope_sums (longest ∷ []) in
    let left : (call_in longest no_scopes).scopes ≡ bind_in no_scopes [] (replicate 65463 0) = ap (λ (r : ScopesTold). r.scopes) (long_in (replicate 65463 0) (length-replicate {A = ℕ} 65463 0)) in
    let used : x.head.used ≡ TEXT = s.text ∙ ap (λ (t : Scopes). 73 + size_of t.bound) left ∙ omega (arith, length-replicate {A = ℕ} 65463 0) in
    let count : x.head.count ≡ 3 = s.records ∙ ap (λ (t : Scopes). 2 + length t.bound) left in
    let limit : x.head.limit ≡ LIMIT = s.limit ∙ ap (λ (t : Scopes). t.limit) left in
    (nineteen_exactly x (reached_valid (longest ∷ [])).valid (Some Named) (bytes "p") (bytes "v") 1 p_binds).1 (omega arith, (omega arith, omega arith))
