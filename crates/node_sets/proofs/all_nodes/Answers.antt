-- `node_sets::all_nodes` meets its contract. Assumes nothing.
use Prim.Native.Nat.{ℕ}
use lib.ListN.{length-replicate, get_or-replicate}
use Rattle.node_sets.proofs.all_nodes.Goals as goal

pub returns : goal.returns
returns c = record { long = length-replicate {A = ℕ} 128 1; is = λ j l. get_or-replicate {A = ℕ} 128 j 1 0 l }
