-- Trial plans and calls for 02: its order of starts, its optional groups and its finishes in one step. Definitions
-- only.
use Rattle.std.specs.Prelude.{ℕ, List, [], ◌∷◌, ◌++◌, take}
use Rattle.runs.specs.Plan.{Kind, all_of, any_of, optional}
use Rattle.runs.specs.Execution.{Status, waiting, running, done}
use Rattle.runs.specs.Summary.{may_pre, may_inc, may_clobber}
use Rattle.runs.specs.Verdict.{CLEAR, OPEN}
use Rattle.runs.specs.Calls.{together, no_task, wrong_status, branch_begun, order_open, pre_unmet, inc_broken}
use Rattle.runs.specs.Calls.{no_optional, not_rising, post_opposed, number}
use Rattle.run_trials.specs.Written.{Order, then, PlanPieces, eight, twos}
use Rattle.run_trials.specs.Trial.{Trial, shown, state_bytes}
use Rattle.run_monitor.specs.Status.{Word, COMPLETE, UNFINISHED}
use Rattle.run_trials.specs.Checked.{StateRow, Worded}
use Rattle.run_trials.specs.Terms.{name, short, off, on, needs, holds, leaves, group, root, work, none_set}
use Rattle.run_trials.specs.Terms.{one_set, two_set, begin, end, omit, ok, under_root, a_task, z_task, trial}
use Rattle.run_trials.specs.Terms.{waits, unstarted, A, C, D, E, G, I, K, L, N, O, P, Q, R, Tee, U, W, Z}
use Rattle.run_trials.specs.Starred.{cast, coms, radi, satl, B, in_order, holder}

-- ---- 02's order of starts: the starts that are accepted take the places 1, 2, ..; refused ones and finishes take none
abbrev pub of_starts : List Trial
of_starts =
    trial (B none_set in_order) CLEAR [] (begin cast ∷ end cast ∷ begin satl ∷ []) (ok ∷ ok ∷ ok ∷ [])
    (state_bytes (one_set 1) (waiting ∷ done ∷ waiting ∷ waiting ∷ running ∷ []) (0 ∷ 1 ∷ 0 ∷ 0 ∷ 2 ∷ []))
    ∷ trial (B none_set in_order) CLEAR [] (begin radi ∷ begin coms ∷ begin cast ∷ end cast ∷ begin radi ∷ [])
    (number order_open ∷ number no_task ∷ ok ∷ ok ∷ ok ∷ [])
    (state_bytes (one_set 1) (waiting ∷ done ∷ waiting ∷ running ∷ waiting ∷ []) (0 ∷ 1 ∷ 0 ∷ 2 ∷ 0 ∷ []))
    ∷ trial holder OPEN [] (begin 2 ∷ begin 1 ∷ end 1 ∷ end 2 ∷ []) (ok ∷ ok ∷ ok ∷ ok ∷ [])
    (state_bytes none_set (waiting ∷ done ∷ done ∷ []) (0 ∷ 2 ∷ 1 ∷ []))
    ∷ []

-- and 16 and 15 on a state of B
abbrev begun : List ℕ → List ℕ
begun os = state_bytes (one_set 1) (waiting ∷ done ∷ waiting ∷ waiting ∷ running ∷ []) os

abbrev row : List ℕ → ℕ → StateRow
row s r = record { plan = B none_set in_order; blocked = []; state = s; refusal = r }

abbrev pub of_places : List StateRow
of_places =
    -- as the calls leave it, and as no list of calls can
    row (begun (0 ∷ 1 ∷ 0 ∷ 0 ∷ 2 ∷ [])) 0
    ∷ row (begun (0 ∷ 2 ∷ 0 ∷ 0 ∷ 1 ∷ [])) 0
    -- a gap, a repeated place, none at a started task
    ∷ row (begun (0 ∷ 1 ∷ 0 ∷ 0 ∷ 3 ∷ [])) 16
    ∷ row (begun (0 ∷ 1 ∷ 0 ∷ 0 ∷ 1 ∷ [])) 16
    ∷ row (begun (0 ∷ 2 ∷ 0 ∷ 0 ∷ 2 ∷ [])) 16
    ∷ row (begun (0 ∷ 1 ∷ 0 ∷ 0 ∷ 0 ∷ [])) 16
    -- at a waiting task, at a group, at the root
    ∷ row (begun (0 ∷ 1 ∷ 0 ∷ 3 ∷ 2 ∷ [])) 16
    ∷ row (begun (0 ∷ 1 ∷ 3 ∷ 0 ∷ 2 ∷ [])) 16
    ∷ row (begun (3 ∷ 1 ∷ 0 ∷ 0 ∷ 2 ∷ [])) 16
    -- above the count, in either byte
    ∷ row (begun (0 ∷ 5 ∷ 0 ∷ 0 ∷ 2 ∷ [])) 16
    ∷ row (begun (0 ∷ 1 ∷ 0 ∷ 0 ∷ 258 ∷ [])) 16
    ∷ row (begun (0 ∷ 1 ∷ 0 ∷ 256 ∷ 2 ∷ [])) 16
    -- 8 + 3N - 1 bytes, 8 + N bytes
    ∷ row (take 22 (begun (0 ∷ 1 ∷ 0 ∷ 0 ∷ 2 ∷ []))) 15
    ∷ row (take 13 (begun (0 ∷ 1 ∷ 0 ∷ 0 ∷ 2 ∷ []))) 15
    ∷ []

-- ---- 02's optional groups
-- a dive: LOWR lowers the gear; the calibration CALI, by TONE or QUIK, which a busy day drops; PING
abbrev pub lowr : ℕ
lowr = 1

abbrev pub cali : ℕ
cali = 2

abbrev pub tone : ℕ
tone = 3

abbrev pub ping : ℕ
ping = 5

abbrev pub dive : PlanPieces
dive = record {
  flags = 2;
  start = none_set;
  entries = root (name D O W N)
      ∷ work 0 (name L O W R) 8 (needs 0 off ∷ leaves 0 on ∷ [])
      ∷ group optional 0 (name C A L I)
      ∷ work cali (name Tee O N E) 15 (needs 0 on ∷ holds 1 on ∷ leaves 1 off ∷ [])
      ∷ work cali (name Q U I K) 4 (needs 0 on ∷ holds 1 on ∷ leaves 1 off ∷ [])
      ∷ work 0 (name P I N G) 40 (needs 1 off ∷ needs 0 on ∷ holds 1 on ∷ leaves 1 off ∷ [])
      ∷ [];
  orders = then lowr cali ∷ then cali ping ∷ [];
}

-- a group of kind k with a task A and, of kind j, a group of a task C
abbrev pub nested : Kind → Kind → PlanPieces
nested k j = record {
  flags = 1;
  start = none_set;
  entries = group k 255 (name R O O Tee) ∷ work 0 (short A) 2 [] ∷ group j 0 (name P I C K) ∷ work 2 (short C) 3 []
      ∷ [];
  orders = [];
}

-- the twins, A before Z, with Z in an optional group
abbrev twin_dropped : PlanPieces
twin_dropped = under_root (a_task (needs 0 off ∷ leaves 0 on ∷ []) ∷ group optional 0 (name P I C K) ∷ work 2
    (short Z) 5 (needs 0 off ∷ leaves 0 on ∷ []) ∷ []) (then 1 2 ∷ [])

abbrev pub of_skips : List Trial
of_skips =
    -- ordered after LOWR; skipped, then neither begun nor skipped again, and PING may start
    trial dive CLEAR (shown cali 0 on may_pre ∷ shown cali 1 on may_inc ∷ [])
    (omit cali ∷ begin lowr ∷ end lowr ∷ begin ping ∷ omit cali ∷ begin tone ∷ omit cali ∷ begin ping ∷ [])
    (number order_open ∷ ok ∷ ok ∷ number order_open ∷ ok ∷ number branch_begun ∷ number wrong_status ∷ ok ∷ [])
    (state_bytes two_set (waiting ∷ done ∷ done ∷ waiting ∷ waiting ∷ running ∷ []) (0 ∷ 1 ∷ 0 ∷ 0 ∷ 0 ∷ 2 ∷ []))
    -- not skipped once a branch is begun
    ∷ trial dive CLEAR [] (begin lowr ∷ end lowr ∷ begin tone ∷ omit cali ∷ end tone ∷ omit cali ∷ begin ping ∷ [])
    (ok ∷ ok ∷ ok ∷ number wrong_status ∷ ok ∷ number wrong_status ∷ ok ∷ [])
    (state_bytes two_set (waiting ∷ done ∷ waiting ∷ done ∷ waiting ∷ running ∷ []) (0 ∷ 1 ∷ 0 ∷ 2 ∷ 0 ∷ 3 ∷ []))
    -- 27, and 17 for a start and a finish of the group
    ∷ trial dive CLEAR [] (omit tone ∷ omit 0 ∷ omit 6 ∷ omit 256 ∷ begin cali ∷ end cali ∷ [])
    (number no_optional ∷ number no_optional ∷ number no_optional ∷ number no_optional ∷ number no_task ∷ number no_task
    ∷ [])
    (state_bytes none_set (waits 6) (unstarted 6))
    -- a choice of a task and an optional group
    ∷ trial (nested any_of optional) CLEAR [] (omit 2 ∷ begin 1 ∷ begin 3 ∷ [])
    (ok ∷ number branch_begun ∷ number branch_begun ∷ [])
    (state_bytes none_set (waiting ∷ waiting ∷ done ∷ waiting ∷ []) (unstarted 4))
    ∷ trial (nested any_of optional) CLEAR [] (begin 1 ∷ omit 2 ∷ omit 0 ∷ [])
    (ok ∷ number branch_begun ∷ number no_optional ∷ [])
    (state_bytes none_set (waiting ∷ running ∷ waiting ∷ waiting ∷ []) (0 ∷ 1 ∷ 0 ∷ 0 ∷ []))
    -- an optional root
    ∷ trial (nested optional any_of) CLEAR [] (omit 0 ∷ begin 1 ∷ begin 3 ∷ omit 0 ∷ omit 2 ∷ [])
    (ok ∷ number branch_begun ∷ number branch_begun ∷ number wrong_status ∷ number no_optional ∷ [])
    (state_bytes none_set (done ∷ waits 3) (unstarted 4))
    -- an optional group in another: the inner skip is a branch of the outer, and the outer skip ends both
    ∷ trial (nested optional optional) CLEAR [] (omit 2 ∷ omit 0 ∷ begin 1 ∷ begin 3 ∷ omit 2 ∷ [])
    (ok ∷ number wrong_status ∷ number branch_begun ∷ number branch_begun ∷ number wrong_status ∷ [])
    (state_bytes none_set (waiting ∷ waiting ∷ done ∷ waiting ∷ []) (unstarted 4))
    ∷ trial (nested optional optional) CLEAR [] (omit 0 ∷ omit 2 ∷ begin 3 ∷ [])
    (ok ∷ number branch_begun ∷ number branch_begun ∷ [])
    (state_bytes none_set (done ∷ waits 3) (unstarted 4))
    -- DOOMED with the second twin, OPEN where it can be dropped
    ∷ trial twin_dropped OPEN (shown 0 0 off may_clobber ∷ shown 2 0 off may_pre ∷ [])
    (begin 1 ∷ end 1 ∷ begin 3 ∷ omit 2 ∷ []) (ok ∷ ok ∷ number pre_unmet ∷ ok ∷ [])
    (state_bytes (one_set 0) (waiting ∷ done ∷ done ∷ waiting ∷ []) (0 ∷ 1 ∷ 0 ∷ 0 ∷ []))
    ∷ []

-- 16 on states of the dive after LOWR: x is the byte of the calibration, y that of the root, k the place of the
-- calibration
abbrev dived : ℕ → ℕ → ℕ → ℕ → StateRow
dived x y k r = record {
  plan = dive;
  blocked = [];
  state = eight (one_set 0) ++ (y ∷ 2 ∷ x ∷ 0 ∷ 0 ∷ 0 ∷ []) ++ twos (0 ∷ 1 ∷ k ∷ 0 ∷ 0 ∷ 0 ∷ []);
  refusal = r;
}

abbrev pub of_groups : List StateRow
of_groups = dived 0 0 0 0 ∷ dived 2 0 0 0 ∷ dived 1 0 0 16 ∷ dived 3 0 0 16 ∷ dived 0 2 0 16 ∷ dived 2 0 2 16 ∷ []

-- whether the root is complete
abbrev root_says : PlanPieces → List Status → List ℕ → Word → Worded
root_says w l os v = record { plan = w; blocked = []; state = state_bytes none_set l os; word = v }

abbrev pub of_words : List Worded
of_words =
    root_says (nested optional any_of) (done ∷ waits 3) (unstarted 4) COMPLETE
    ∷ root_says (nested optional any_of) (waits 4) (unstarted 4) UNFINISHED
    ∷ root_says (nested optional any_of) (waiting ∷ done ∷ waits 2) (0 ∷ 1 ∷ 0 ∷ 0 ∷ []) COMPLETE
    ∷ root_says (nested optional optional) (waiting ∷ waiting ∷ done ∷ waiting ∷ []) (unstarted 4) COMPLETE
    ∷ root_says (nested any_of optional) (waiting ∷ waiting ∷ done ∷ waiting ∷ []) (unstarted 4) COMPLETE
    ∷ root_says (nested all_of optional) (waiting ∷ done ∷ waits 2) (0 ∷ 1 ∷ 0 ∷ 0 ∷ []) UNFINISHED
    ∷ root_says (nested all_of optional) (waiting ∷ done ∷ done ∷ waiting ∷ []) (0 ∷ 1 ∷ 0 ∷ 0 ∷ []) COMPLETE
    ∷ []

-- ---- 02's finishes in one step
-- A leaves flag 0 set, Z leaves it clear
abbrev opposed : List Order → PlanPieces
opposed os = under_root (a_task (leaves 0 on ∷ []) ∷ z_task (leaves 0 off ∷ []) ∷ []) os

-- and C holds it set
abbrev opposed_held : PlanPieces
opposed_held = under_root (a_task (leaves 0 on ∷ []) ∷ work 0 (short C) 3 (holds 0 on ∷ leaves 0 on ∷ []) ∷ z_task
    (leaves 0 off ∷ []) ∷ []) []

-- A holds flag 0 set and leaves it clear, Z too, and needs it set
abbrev joint : PlanPieces
joint = under_root (a_task (holds 0 on ∷ leaves 0 off ∷ []) ∷ z_task
    (needs 0 on ∷ holds 0 on ∷ leaves 0 off ∷ []) ∷ []) []

abbrev pub of_finishes : List Trial
of_finishes =
    -- opposite leavings: not in one step, one after the other
    trial (opposed []) OPEN (shown 0 0 on may_clobber ∷ shown 0 0 off may_clobber ∷ [])
    (begin 1 ∷ begin 2 ∷ together (1 ∷ 2 ∷ []) ∷ together (1 ∷ []) ∷ together (2 ∷ []) ∷ [])
    (ok ∷ ok ∷ number post_opposed ∷ ok ∷ ok ∷ [])
    (state_bytes none_set (waiting ∷ done ∷ done ∷ []) (0 ∷ 1 ∷ 2 ∷ []))
    ∷ trial (opposed (then 1 2 ∷ [])) CLEAR [] [] [] (state_bytes none_set (waits 3) (unstarted 3))
    -- holds of the listed tasks are not tried, those of another are
    ∷ trial holder OPEN [] (begin 1 ∷ begin 2 ∷ together (2 ∷ []) ∷ together (1 ∷ 2 ∷ []) ∷ [])
    (ok ∷ ok ∷ number inc_broken ∷ ok ∷ [])
    (state_bytes none_set (waiting ∷ done ∷ done ∷ []) (0 ∷ 1 ∷ 2 ∷ []))
    -- 26 before 22
    ∷ trial opposed_held OPEN []
    (begin 1 ∷ begin 2 ∷ begin 3 ∷ together (1 ∷ 3 ∷ []) ∷ together (3 ∷ []) ∷ together (1 ∷ 2 ∷ []) ∷ end 3 ∷ [])
    (ok ∷ ok ∷ ok ∷ number post_opposed ∷ number inc_broken ∷ ok ∷ ok ∷ [])
    (state_bytes none_set (waiting ∷ done ∷ done ∷ done ∷ []) (0 ∷ 1 ∷ 2 ∷ 3 ∷ []))
    -- only in one step can both end
    ∷ trial joint OPEN [] (begin 1 ∷ begin 2 ∷ end 1 ∷ end 2 ∷ together (1 ∷ []) ∷ together (1 ∷ 2 ∷ []) ∷ [])
    (ok ∷ ok ∷ number inc_broken ∷ number inc_broken ∷ number inc_broken ∷ ok ∷ [])
    (state_bytes none_set (waiting ∷ done ∷ done ∷ []) (0 ∷ 1 ∷ 2 ∷ []))
    -- 25: empty, repeated, falling, and before 17; 17: the root, past the nodes, and before 18; 18: waiting, done
    ∷ trial holder OPEN []
    (together [] ∷ together (2 ∷ 2 ∷ []) ∷ together (2 ∷ 1 ∷ []) ∷ together (1 ∷ 9 ∷ 9 ∷ []) ∷ together (0 ∷ 1 ∷ [])
    ∷ together (1 ∷ 9 ∷ []) ∷ together (1 ∷ 256 ∷ []) ∷ together (1 ∷ 2 ∷ []) ∷ begin 1 ∷ together (1 ∷ 2 ∷ [])
    ∷ together (1 ∷ []) ∷ together (1 ∷ []) ∷ [])
    (number not_rising ∷ number not_rising ∷ number not_rising ∷ number not_rising ∷ number no_task ∷ number no_task
    ∷ number no_task ∷ number wrong_status ∷ ok ∷ number wrong_status ∷ ok ∷ number wrong_status ∷ [])
    (state_bytes none_set (waiting ∷ done ∷ waiting ∷ []) (0 ∷ 1 ∷ 0 ∷ []))
    ∷ []
