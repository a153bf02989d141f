-- `tag_keys::earlier_sifted` meets its contract: a hash that is not in the sieve is that of no recorded key.
use mathlib.Core.Path.{sym, ap, ◌∙◌}
use lib.ListN.{length}
use Rattle.tag_keys.proofs.Sieve.{sieve_length, sieve_none}
use Rattle.tag_keys.proofs.earlier_sifted.Goals as goal

pub in_sieve-requires : goal.in_sieve-requires
in_sieve-requires c = ap length c.requires.sieve_value ∙ sieve_length _ _

pub returns-then-not-in_sieve : goal.returns-then-not-in_sieve
returns-then-not-in_sieve c =
    sieve_none _ _ _ _ _ _ _ c.requires.keys_in _ _ c.requires.sieve_value c.requires.hash_value (sym c.in_sieve.ensures ∙ c.if-not-in_sieve.true)
