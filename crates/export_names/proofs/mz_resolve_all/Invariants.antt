-- `export_names::mz_resolve_all` meets its contract: a call comes back in three ways, each by its law (proofs/Calls), and after i
-- turns each array has the numbers of the first i names (proofs/Written).
use lib.ListN.{length}
use Rattle.export_names.proofs.Written.{Filled}
use Rattle.export_names.proofs.Calls.{nth}
use Rattle.export_names.proofs.mz_resolve_all.Given as goal

abbrev pub invariant-loop-i : goal.invariant-loop-i
invariant-loop-i l = Filled (nth l.tag l.from l.to l.elements l.initial.kinds l.initial.begins l.initial.ends l.text l.records l.head) (length l.from) l.initial.kinds l.initial.begins l.initial.ends l.kinds l.begins l.ends l.i
