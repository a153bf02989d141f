-- `scope_change::refusal` meets its contract: each refusal at its turn. That both lengths together are too long shows in three
-- tests.
use Prim.Native.Nat.{◌+◌, ◌-◌, ◌<◌, ◌≤◌}
use native.Mathlib.Omega.{arith}
use borrow.Author.Tests.{le-leb, lt-leb, lt-ltb, le-ltb}
use Rattle.scope_change.specs.Change.{refusal_of}
use Rattle.scope_change.proofs.refusal.Goals as goal

pub returns-then-limit-saturating_sub : goal.returns-then-limit-saturating_sub
unfolding refusal_of
returns-then-limit-saturating_sub c =
    let a = c.args in
    let t : a.head.limit ≤ a.head.count - 2 = omega (arith, c.saturating_sub.ensures) in
    rw (le-leb _ _ t)

pub returns-then-records-count : goal.returns-then-records-count
unfolding refusal_of
returns-then-records-count c =
    let a = c.args in
    let t : a.head.count - 2 < a.head.limit = omega (arith, c.saturating_sub.ensures) in
    rw (lt-leb _ _ t, le-leb _ _ c.if-records-count.true)

pub returns-then-bytes-used : goal.returns-then-bytes-used
unfolding refusal_of
returns-then-bytes-used c =
    let a = c.args in
    let t : a.head.count - 2 < a.head.limit = omega (arith, c.saturating_sub.ensures) in
    let s : a.room.bytes < a.head.used + (a.prefix_len + a.value_len) = omega arith in
    rw (lt-leb _ _ t, lt-leb _ _ c.if-records-count.false, lt-ltb _ _ s)

pub returns-then-free-prefix_len : goal.returns-then-free-prefix_len
unfolding refusal_of
returns-then-free-prefix_len c =
    let a = c.args in
    let t : a.head.count - 2 < a.head.limit = omega (arith, c.saturating_sub.ensures) in
    let s : a.room.bytes < a.head.used + (a.prefix_len + a.value_len) = omega arith in
    rw (lt-leb _ _ t, lt-leb _ _ c.if-records-count.false, lt-ltb _ _ s)

pub returns-then-free-prefix_len-2 : goal.returns-then-free-prefix_len-2
unfolding refusal_of
returns-then-free-prefix_len-2 c =
    let a = c.args in
    let t : a.head.count - 2 < a.head.limit = omega (arith, c.saturating_sub.ensures) in
    let s : a.room.bytes < a.head.used + (a.prefix_len + a.value_len) = omega arith in
    rw (lt-leb _ _ t, lt-leb _ _ c.if-records-count.false, lt-ltb _ _ s)

pub returns : goal.returns
unfolding refusal_of
returns c =
    let a = c.args in
    let t : a.head.count - 2 < a.head.limit = omega (arith, c.saturating_sub.ensures) in
    let s : a.head.used + (a.prefix_len + a.value_len) ≤ a.room.bytes = omega arith in
    rw (lt-leb _ _ t, lt-leb _ _ c.if-records-count.false, le-ltb _ _ s)
