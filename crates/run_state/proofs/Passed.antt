-- What calls rest on after checks 1 to 16: an accepted plan with its meaning, and a state whose bytes can be read as
-- statuses. Assumes nothing.
use mathlib.Core.Path.{◌≡◌, refl, sym, ap, ◌∙◌}
use mathlib.Core.Logic.{◌↔◌, ◌⊎◌, inl, inr, ⊎_elim}
use mathlib.Core.Bool.{true, false, or-true}
use mathlib.Core.List.{List, []}
use Prim.Native.Nat.{ℕ, zero, suc, ◌+◌, ◌<◌, ◌≤◌}
use native.Mathlib.Omega.{arith}
use lib.ListN.{length}
use lib.Dec.{eqb}
use borrow.Author.Tests.{ltb-false, eqb-true, not-false}
use Rattle.plan_format.specs.Format.{node_count, kind_of, is_kind}
use Rattle.base.proofs.Booleans.{either, or_none, or_split, not_passed}
use Rattle.plan_check.specs.Meaning.{plan_of}
use Rattle.plan_check.proofs.Meaning.{means_well_formed, kind_is, kind_task}
use Rattle.plan_check.proofs.Nodes.{is_node, node_is, plan_kind, kind_optional}
use Rattle.runs.specs.Plan.{Moves, Node}
use Rattle.runs.specs.WellFormed.{WellFormed}
use Rattle.runs.specs.Execution.{Status, waiting, running, done}
use Rattle.runs.specs.Calls.{empty}
use Rattle.runs.specs.Numbers.{status_byte}
use Rattle.run_starts.specs.Starts.{node_byte}
use Rattle.run_state.specs.State.{bad_byte, status_at, moves, status_in, bad_absent, state_refusal_under}
use Rattle.run_state.specs.Inner.{state_refusal}
use Rattle.plan_blocked.specs.Blocked.{refusal_under}
use Rattle.plan_blocked.proofs.Refused.{list_passes}
use Rattle.runs.specs.Searches.{listed}
use Rattle.runs.specs.Blocked.{Stands}
use Rattle.runs.specs.Model.Blocked.{stands}
use Rattle.runs.proofs.Reflect.{true_T}
use Rattle.runs.proofs.Blocked.Standing.{r_stands}
use Rattle.runs.proofs.Blocked.Branches.{all_standing, blocks_nothing}
use Rattle.run_state.proofs.Refused.{Roomy, room_passed, room_blocked}
use Rattle.run_state.proofs.Refused.{state_room_under, state_well_under, state_passed}
use Rattle.run_state.proofs.Well.{Well, WellUnder, well_under, from_under}

-- a byte and the status that it shows, back and forth
pub status_back : (x : ℕ) → x ≤ 2 → status_byte (status_at x) ≡ x
unfolding status_at
status_back zero l = refl
status_back (suc zero) l = refl
status_back (suc (suc zero)) l = refl
status_back (suc (suc (suc x))) l = absurd (omega arith)

pub status_of_lem : (a : Status) → status_at (status_byte a) ≡ a
unfolding status_at
status_of_lem waiting = refl
status_of_lem running = refl
status_of_lem done = refl

-- the nodes that events move
module _ (b : List ℕ) (n : ℕ) where
  pub task_moves : is_kind b n 0 ≡ true → moves b n ≡ true
  unfolding moves
  task_moves y = rw y

  pub optional_moves : is_kind b n 3 ≡ true → moves b n ≡ true
  unfolding moves
  optional_moves y = rw y (or-true (is_kind b n 0))

  pub moves_node : moves b n ≡ true → n < node_count b
  unfolding moves
  moves_node y = ⊎_elim (λ x. (kind_is b n 0 x).0) (λ x. (kind_is b n 3 x).0)
      (or_split (is_kind b n 0) (is_kind b n 3) y)

module _ (b s : List ℕ) (ok : state_refusal b s ≡ 0) where
  pub has_room : Roomy b s
  has_room = room_passed b [] s (state_room_under b [] s ok)

  pub well_formed : WellFormed (plan_of b)
  well_formed = means_well_formed b has_room.accepted

  pub is_well : Well b s
  is_well = (well_under b [] s (state_well_under b [] s ok)).well

  -- the byte of a node that no event moves
  pub byte_rests : (n : ℕ) → n < node_count b → moves b n ≡ false → node_byte s n ≡ 0
  unfolding bad_byte moves
  byte_rests n l y = let w = or_none (is_kind b n 0) (is_kind b n 3) y in
      eqb-true (node_byte s n) 0 (not-false _ (rw (w.0, w.1) at (is_well.bytes n l)))

  -- of a task, of an optional group
  pub byte_optional : (n : ℕ) → n < node_count b → is_kind b n 3 ≡ true → (node_byte s n ≡ 0) ⊎ (node_byte s n ≡ 2)
  unfolding bad_byte
  byte_optional n l y =
      let none : is_kind b n 0 ≡ false = not_passed _ (λ x. omega (arith, (kind_is b n 0 x).1, (kind_is b n 3 y).1)) in
      ⊎_elim (λ x. inl (eqb-true (node_byte s n) 0 x)) (λ x. inr (eqb-true (node_byte s n) 2 x))
      (or_split (eqb (node_byte s n) 0) (eqb (node_byte s n) 2) (not-false _ (rw (none, y) at (is_well.bytes n l))))

  byte_small : (n : ℕ) → n < node_count b → moves b n ≡ true → node_byte s n ≤ 2
  unfolding bad_byte moves
  byte_small n l y =
      ⊎_elim
      (λ (x : is_kind b n 0 ≡ true). ltb-false 2 (node_byte s n) (rw x at (is_well.bytes n l)))
      (λ x. ⊎_elim (λ (e : node_byte s n ≡ 0). omega arith) (λ (e : node_byte s n ≡ 2). omega arith)
      (byte_optional n l x))
      (or_split (is_kind b n 0) (is_kind b n 3) y)

  -- the byte of any node is that of the status that it shows
  pub byte_shown : (n : ℕ) → n < node_count b → status_byte (status_in b s n) ≡ node_byte s n
  unfolding status_in
  byte_shown n l =
      ⊎_elim
      (λ (y : moves b n ≡ true). rw y (status_back (node_byte s n) (byte_small n l y)))
      (λ (y : moves b n ≡ false). rw (y, byte_rests n l y))
      (either (moves b n))

  pub byte_is : (n : ℕ) → n < node_count b → (a : Status) → (node_byte s n ≡ status_byte a) ↔ (status_in b s n ≡ a)
  byte_is n l a = (
    λ e. sym (status_of_lem (status_in b s n)) ∙ ap status_at (byte_shown n l ∙ e) ∙ status_of_lem a,
    λ e. sym (byte_shown n l) ∙ ap status_byte e,
  )

  -- what does not wait is of a kind that events move
  pub shown_moves : (n : ℕ) → (status_in b s n ≡ waiting → ⊥) → Moves ((plan_of b).tree.kind n)
  unfolding status_in moves
  shown_moves n k =
      ⊎_elim
      (λ (y : moves b n ≡ true). ⊎_elim (λ x. rw (plan_kind b n ∙ kind_task (kind_of b n) (kind_is b n 0 x).1) tt)
      (λ x. rw (plan_kind b n ∙ kind_optional (kind_of b n) (kind_is b n 3 x).1) tt)
      (or_split (is_kind b n 0) (is_kind b n 3) y))
      (λ (y : moves b n ≡ false). absurd (k (rw y)))
      (either (moves b n))

  -- a node's number is an index of a table of nodes, and its byte is one of the state
  module _ (n : ℕ) (l : n < node_count b) where
    pub node_small : n < 128
    node_small = omega (arith, has_room.plan.fits.limits.nodes)

    pub byte_inside : 8 + n < length s
    byte_inside = omega (arith, has_room.room)

-- with nothing blocked all nodes stand, and 16 is what it is without a list
pub well_passed : (b s : List ℕ) → Roomy b s → Well b s → state_refusal b s ≡ 0
unfolding bad_absent
well_passed b s r w =
    let ok = r.accepted in
    let p = means_well_formed b ok in
    state_passed b [] s (list_passes b [] ok empty (blocks_nothing (plan_of b) p)) r.room (from_under b [] s (record {
      well = w;
      absent = λ n l. rw (all_standing (plan_of b) p n (is_node b n l));
    }))

-- and with a list of blocked nodes
module _ (b xs s : List ℕ) (ok : state_refusal_under b xs s ≡ 0) where
  pub list_passed : refusal_under b xs ≡ 0
  list_passed = room_blocked b xs s (state_room_under b xs s ok)

  under_well : WellUnder b xs s
  under_well = well_under b xs s (state_well_under b xs s ok)

  pub passed : state_refusal b s ≡ 0
  passed = well_passed b s (room_passed b xs s (state_room_under b xs s ok)) under_well.well

  -- what does not stand waits
  pub absent_byte : (n : ℕ) → n < node_count b → stands (plan_of b) (listed xs) n ≡ false → node_byte s n ≡ 0
  unfolding bad_absent
  absent_byte n l y = eqb-true (node_byte s n) 0 (not-false _ (rw y at (under_well.absent n l)))

  pub absent_waits : (n : ℕ) → Node (plan_of b) n → ¬ Stands (plan_of b) (listed xs) n → status_in b s n ≡ waiting
  absent_waits n h k = let l = node_is b n h in
      (byte_is b s passed n l waiting).0 (absent_byte n l (not_passed _
      (λ y. k ((r_stands (plan_of b) (well_formed b s passed) (listed xs) n).to (true_T _ y)))))

-- and back
pub under_passed : (b xs s : List ℕ) → refusal_under b xs ≡ 0 → state_refusal b s ≡ 0
    → ((n : ℕ) → n < node_count b → stands (plan_of b) (listed xs) n ≡ false → node_byte s n ≡ 0)
    → state_refusal_under b xs s ≡ 0
unfolding bad_absent
under_passed b xs s e ok h = state_passed b xs s e (has_room b s ok).room (from_under b xs s (record {
  well = is_well b s ok;
  absent = λ n l. ⊎_elim (λ (y : stands (plan_of b) (listed xs) n ≡ true). rw y)
      (λ (y : stands (plan_of b) (listed xs) n ≡ false). rw (y, h n l y)) (either (stands (plan_of b) (listed xs) n));
}))
