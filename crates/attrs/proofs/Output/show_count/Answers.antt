-- `attrs::Output::show_count` meets its contract: the word, the digits and the line feed are the parts of the count's line, one
-- after another.
use Prim.Native.Nat.{◌+◌, ◌≤◌}
use mathlib.Core.Path.{◌≡◌, ◌∙◌}
use lib.ListN.{length}
use Rattle.attrs.specs.Output.{count_line, output_of}
use native.Mathlib.Omega.{arith}
use Rattle.scan.specs.Bytes.{bytes_from, bytes}
use Rattle.lines.proofs.Text.{digits_are}
use Rattle.attrs.proofs.Written.{on_refusal, word_next, within_digits, digits_next, within_feed, feed_next, count_done}
use Rattle.std.proofs.lemmas.Result.{on_ok_weaker, on_err_weaker}
use Rattle.attrs.proofs.Output.show_count.Goals as goal

pub write_next-requires : goal.write_next-requires
unfolding bytes bytes_from
write_next-requires g c = word_next c.args.self.now.tag.now c.args.self.now.written c.args.total c.requires

pub write_next-requires-2 : goal.write_next-requires-2
unfolding bytes bytes_from
write_next-requires-2 g c =
    let d = c.decimal-k.ensures in
    let are = d.digits ∙ digits_are c.args.total c.decimal-k.result d.len (omega arith) in
    rw c.in_ok-write_next.ensures.tag (digits_next c.args.self.now.tag.now c.args.self.now.written c.args.total c.requires c.in_ok-write_next.ensures.ok are)

pub write_next-requires-3 : goal.write_next-requires-3
unfolding bytes bytes_from
write_next-requires-3 g c =
    let d = c.decimal-k.ensures in
    let are = d.digits ∙ digits_are c.args.total c.decimal-k.result d.len (omega arith) in
    rw (c.in_ok-write_next-2.ensures.tag ∙ c.in_ok-write_next.ensures.tag) (feed_next c.args.self.now.tag.now c.args.self.now.written c.args.total c.requires c.in_ok-write_next.ensures.ok are c.in_ok-write_next-2.ensures.ok)

pub returns-in_err-write_next-2-clause-err : goal.returns-in_err-write_next-2-clause-err
unfolding bytes bytes_from
returns-in_err-write_next-2-clause-err g c =
    let d = c.decimal-k.ensures in
    let are = d.digits ∙ digits_are c.args.total c.decimal-k.result d.len (omega arith) in
    on_refusal {P = c.write_next-2.new.self.written ≤ length (output_of c.args.self.now.tag.now)} c.from_residual-in_err-write_next-2.result (rw c.in_err-write_next-2.ensures.err (within_digits c.args.self.now.tag.now c.args.self.now.written c.args.total c.requires c.in_ok-write_next.ensures.ok are))

pub returns-clause-ok : goal.returns-clause-ok
unfolding bytes bytes_from
returns-clause-ok g c =
    let d = c.decimal-k.ensures in
    let are = d.digits ∙ digits_are c.args.total c.decimal-k.result d.len (omega arith) in
    on_ok_weaker {P = c.write_next-3.new.self.written ≡ c.write_next-2.new.self.written + length (bytes "\n")} {Q = c.write_next-3.new.self.written ≡ length (count_line c.args.total)} c.write_next-3.result (λ e. count_done c.args.self.now.tag.now c.args.self.now.written c.args.total c.requires c.in_ok-write_next.ensures.ok are c.in_ok-write_next-2.ensures.ok e) c.write_next-3.ensures.ok

pub returns-clause-err : goal.returns-clause-err
unfolding bytes bytes_from
returns-clause-err g c =
    let d = c.decimal-k.ensures in
    let are = d.digits ∙ digits_are c.args.total c.decimal-k.result d.len (omega arith) in
    let w = within_feed c.args.self.now.tag.now c.args.self.now.written c.args.total c.requires c.in_ok-write_next.ensures.ok are c.in_ok-write_next-2.ensures.ok in
    on_err_weaker {P = c.write_next-3.new.self.written ≡ c.write_next-2.new.self.written} {Q = c.write_next-3.new.self.written ≤ length (output_of c.args.self.now.tag.now)} c.write_next-3.result (λ e. omega (arith, e, w)) c.write_next-3.ensures.err
