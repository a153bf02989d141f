-- `scope_table::zero_numbers` meets its contract: the bits of all that it takes are none exactly if each is zero.
use Rattle.std.proofs.Common.{rules, ◌≡◌, ◌∙◌, ap, nat_eq, drop, bit_or, arith}
use Rattle.std.proofs.lemmas.Grind.{common_steps}
use lib.ListN.{drop_of_length-le}
use Rattle.std.specs.List.{fold}
use Rattle.scope_table.specs.Lists.{all_zero}
use Rattle.scope_table.proofs.Lists.{zero_fold}
use Rattle.scope_table.proofs.zero_numbers.Goals as goal

pub returns : goal.returns
returns c =
    let rest = c.unwrap_or-rest.result.now in
    let folded : c.fold.result ≡ fold bit_or 0 rest = search rules in
    let kept : rest ≡ drop c.args.from c.args.t.now = grind (arith, common_steps, drop_of_length-le) in
    ap (λ bits. nat_eq bits 0) folded ∙ zero_fold 0 rest ∙ ap all_zero kept
