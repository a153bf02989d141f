-- `tag_keys::earlier_key` meets its contract. Outer loop: the search behind the filter stops at no key before k, so it goes on from
-- k. Inner loop: the bytes from j on are the same. What is found is what the plain search finds, by `filtered_agrees`.
use Prim.Native.Nat.{ℕ, ◌+◌, ◌-◌, ◌≤◌}
use mathlib.Core.Path.{◌≡◌, refl, ◌∙◌}
use mathlib.Core.Bool.{true, false}
use mathlib.Core.List.{List}
use native.Mathlib.Nat.{le_of_lt}
use native.Mathlib.Omega.{arith}
use lib.ListN.{get_or}
use Rattle.scan.specs.First.{first_to}
use Rattle.scan.proofs.Laws.{to_hit, to_miss, to_past, to_first}
use Rattle.tag_keys.specs.Hash.{hash_of}
use Rattle.scan.specs.Bytes.{part}
use Rattle.tag_keys.specs.Keys.{KeysIn, name_at, hash_is, same_key}
use Rattle.tag_keys.proofs.Laws.{alike, unlike_length, unlike_byte, down_more}
use Rattle.tag_keys.proofs.Filter.{stops, over_hashes, stops_by, stops_at, stops_past}
use Rattle.tag_keys.proofs.earlier_key.Goals as goal

-- the kept hash that is found next is not before k, and the search goes on from it
next : (tag starts ends hashes : List ℕ) (count from to hash k i : ℕ) → KeysIn starts ends hashes count tag → hash ≡ hash_of (part tag from to) → k ≤ count → first_to (stops hash_of tag starts ends from to) 0 count ≡ first_to (stops hash_of tag starts ends from to) k count → i ≡ first_to (hash_is hashes hash) k count →
    (k ≤ i) × (first_to (stops hash_of tag starts ends from to) 0 count ≡ first_to (stops hash_of tag starts ends from to) i count)
next tag starts ends hashes count from to hash k i keys own le so_far e =
    let first = to_first (hash_is hashes hash) k count le in (
      omega (arith, first.ahead),
      so_far ∙ over_hashes hash_of tag starts ends from to count hashes keys.kept hash own k i le e,
    )

pub keys-init : goal.keys-init
keys-init c = (refl, omega arith, refl)

pub kept_from-i-requires : goal.kept_from-i-requires
kept_from-i-requires c = (c.keys.invariant.1, c.requires.keys_in.placed.2)

pub bounds-starts-i : goal.bounds-starts-i
bounds-starts-i c = omega (arith, c.requires.keys_in.placed)

pub bounds-ends-i : goal.bounds-ends-i
bounds-ends-i c = omega (arith, c.requires.keys_in.placed)

pub overflow_sub-end : goal.overflow_sub-end
overflow_sub-end c = omega (arith, c.requires.keys_in.inside c.kept_from-i.result (omega arith))

pub keys-smaller-then-end-start : goal.keys-smaller-then-end-start
keys-smaller-then-end-start c = omega (arith, (next _ _ _ _ _ _ _ _ _ _ c.requires.keys_in c.requires.hash_value c.keys.invariant.1 c.keys.invariant.2 c.kept_from-i.ensures).0)

pub keys-preserved-then-end-start : goal.keys-preserved-then-end-start
unfolding name_at same_key
keys-preserved-then-end-start c =
    let n = c.kept_from-i.result in
    let h = c.requires.keys_in.inside n (omega (arith, c.if-i-count.false)) in
    let unlike = unlike_length c.args.tag.now _ _ _ _ (le_of_lt h.0) h.1 (le_of_lt c.requires.from_lt_to.0) c.requires.from_lt_to.1 c.if-end-start.true in
    (c.keys.invariant.0, omega (arith, c.if-i-count.false), (next _ _ _ _ _ _ _ _ _ _ c.requires.keys_in c.requires.hash_value c.keys.invariant.1 c.keys.invariant.2 c.kept_from-i.ensures).1 ∙ to_miss _ n _ (omega (arith, c.if-i-count.false)) (stops_by _ _ _ _ _ _ n false unlike))

pub loop-j-init : goal.loop-j-init
loop-j-init c = λ i lo hi. absurd (omega arith)

pub overflow_add-start : goal.overflow_add-start
overflow_add-start c = omega (arith, c.requires.keys_in.inside c.kept_from-i.result (omega arith))

pub bounds-tag-start : goal.bounds-tag-start
bounds-tag-start c = omega (arith, c.requires.keys_in.inside c.kept_from-i.result (omega arith))

pub keys-smaller : goal.keys-smaller
keys-smaller c = omega (arith, (next _ _ _ _ _ _ _ _ _ _ c.requires.keys_in c.requires.hash_value c.keys.invariant.1 c.keys.invariant.2 c.kept_from-i.ensures).0)

pub keys-preserved : goal.keys-preserved
unfolding name_at same_key
keys-preserved c =
    let n = c.kept_from-i.result in
    let h = c.requires.keys_in.inside n (omega (arith, c.if-i-count.false)) in
    let unlike = unlike_byte c.args.tag.now _ _ _ _ (le_of_lt h.0) h.1 (le_of_lt c.requires.from_lt_to.0) c.requires.from_lt_to.1 c.if-end-start.false (c.loop-j.j - 1) (omega arith) c.if-tag-start.true in
    (c.keys.invariant.0, omega (arith, c.if-i-count.false), (next _ _ _ _ _ _ _ _ _ _ c.requires.keys_in c.requires.hash_value c.keys.invariant.1 c.keys.invariant.2 c.kept_from-i.ensures).1 ∙ to_miss _ n _ (omega (arith, c.if-i-count.false)) (stops_by _ _ _ _ _ _ n false unlike))

pub loop-j-preserved : goal.loop-j-preserved
loop-j-preserved c =
    let tag = c.args.tag.now in
    let start = get_or c.args.starts.now c.kept_from-i.result 0 in
    down_more (λ n. get_or tag (start + n) 0 ≡ get_or tag (c.args.from + n) 0) c.loop-j.j _ (omega arith) c.loop-j.invariant c.if-tag-start.false

pub returns-then-i-count : goal.returns-then-i-count
returns-then-i-count c =
    let n = c.kept_from-i.result in
    c.keys.invariant.0 ∙ stops_past _ _ _ _ _ _ _ n ((next _ _ _ _ _ _ _ _ _ _ c.requires.keys_in c.requires.hash_value c.keys.invariant.1 c.keys.invariant.2 c.kept_from-i.ensures).1 ∙ to_past _ n _ c.if-i-count.true) c.if-i-count.true

pub returns-after-loop-j : goal.returns-after-loop-j
unfolding name_at same_key
returns-after-loop-j c =
    let n = c.kept_from-i.result in
    let h = c.requires.keys_in.inside n (omega arith) in
    let same = alike c.args.tag.now _ _ _ _ (le_of_lt h.0) h.1 (le_of_lt c.requires.from_lt_to.0) c.requires.from_lt_to.1 c.if-end-start.false (λ m lo hi. c.loop-j.invariant m (omega arith) hi) in
    stops_at _ _ _ _ _ _ _ n ((next _ _ _ _ _ _ _ _ _ _ c.requires.keys_in c.requires.hash_value c.keys.invariant.1 c.keys.invariant.2 c.kept_from-i.ensures).1 ∙ to_hit _ n _ (omega arith) (stops_by _ _ _ _ _ _ n true same)) (omega arith)

pub returns-after-keys : goal.returns-after-keys
returns-after-keys c =
    c.keys.invariant.0 ∙ stops_past _ _ _ _ _ _ _ _ (c.keys.invariant.2 ∙ to_past _ _ _ c.keys-test.false) c.keys-test.false
