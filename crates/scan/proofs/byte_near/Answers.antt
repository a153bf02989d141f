-- `scan::byte_near` meets its contract: the first word has the byte, or is skipped.
use Prim.Native.Nat.{◌+◌}
use mathlib.Core.Path.{◌≡◌, sym, ◌∙◌}
use native.Mathlib.Omega.{arith}
use Rattle.scan.proofs.Marks.{word_hit, word_miss}
use Rattle.scan.proofs.byte_near.Goals as goal

pub returns-then-k-lt8 : goal.returns-then-k-lt8
returns-then-k-lt8 c =
    let a = c.args in
    let e : c.before_byte-k.result ≡ 0 + c.before_byte-k.result = omega arith in
    e ∙ c.before_byte-k.ensures.0 ∙ sym (word_hit a.tag.now a.b 0 (omega arith) (omega arith))

pub returns : goal.returns
returns c =
    let a = c.args in
    c.byte_by_bytes-2.ensures ∙ sym (word_miss a.tag.now a.b 0 (omega arith) (omega arith))
