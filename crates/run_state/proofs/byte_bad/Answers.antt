-- `run_state::byte_bad` meets its contract. Assumes nothing.
use Rattle.std.proofs.Common.{arith}
use Rattle.std.proofs.lemmas.Grind.{common_steps}
use Rattle.node_sets.specs.Sets.{marked}
use Rattle.run_starts.specs.Starts.{node_byte}
use Rattle.run_state.specs.State.{bad_byte}
use Rattle.run_state.specs.Inner.{bad_byte_in}
use Rattle.run_state.proofs.byte_bad.Goals as goal

pub returns-then-x : goal.returns-then-x
unfolding bad_byte_in bad_byte marked node_byte
returns-then-x c = grind (arith, common_steps)

pub returns-then-standing-n-ne1 : goal.returns-then-standing-n-ne1
unfolding bad_byte_in bad_byte marked node_byte
returns-then-standing-n-ne1 c = grind (arith, common_steps)

pub returns-then-is_kind : goal.returns-then-is_kind
unfolding bad_byte_in bad_byte marked node_byte
returns-then-is_kind c = grind (arith, common_steps)

pub returns : goal.returns
unfolding bad_byte_in bad_byte marked node_byte
returns c = grind (arith, common_steps)
