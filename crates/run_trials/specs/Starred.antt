-- The trial plans and calls of 01 that are marked *, as one table. Definitions only.
use Rattle.std.specs.Prelude.{ℕ, Bool, List, [], ◌∷◌}
use Rattle.runs.specs.Execution.{waiting, running, done}
use Rattle.runs.specs.Summary.{must_pre}
use Rattle.runs.specs.Verdict.{CLEAR, OPEN, DOOMED}
use Rattle.runs.specs.Calls.{no_task, wrong_status, branch_begun, order_open, pre_unmet, inc_broken, number}
use Rattle.run_trials.specs.Written.{Order, then, PlanPieces}
use Rattle.run_trials.specs.Trial.{Trial, shown, state_bytes}
use Rattle.run_trials.specs.Terms.{name, short, off, on, needs, holds, leaves, root, choice, work, none_set}
use Rattle.run_trials.specs.Terms.{one_set, begin, end, ok, under_root, a_task, z_task, trial, waits, unstarted}
use Rattle.run_trials.specs.Terms.{A, C}
use Rattle.run_trials.specs.Terms.{D, E, I, K, L, M, N, O, P, R, S, Tee}

-- ---- plan B: MOOR, CAST, COMS, RADI, SATL
abbrev pub cast : ℕ
cast = 1

abbrev pub coms : ℕ
coms = 2

abbrev pub radi : ℕ
radi = 3

abbrev pub satl : ℕ
satl = 4

abbrev pub B : (ℕ → Bool) → List Order → PlanPieces
B F os = record {
  flags = 2;
  start = F;
  entries = root (name M O O R)
      ∷ work 0 (name C A S Tee) 12 (needs 0 off ∷ holds 0 on ∷ leaves 0 off ∷ [])
      ∷ choice (name C O M S)
      ∷ work coms (name R A D I) 3 (needs 0 off ∷ holds 1 on ∷ leaves 1 off ∷ [])
      ∷ work coms (name S A Tee L) 5 (holds 1 on ∷ leaves 1 off ∷ [])
      ∷ [];
  orders = os;
}

abbrev pub in_order : List Order
in_order = then cast coms ∷ []

-- ---- under an all-of root: A, Z, and between them C, or a choice of C and another
-- A holds flag 0 set and leaves it clear, Z leaves it clear
abbrev pub holder : PlanPieces
holder = under_root (a_task (holds 0 on ∷ leaves 0 off ∷ []) ∷ z_task (leaves 0 off ∷ []) ∷ []) []

-- A and Z each need flag 0 clear and leave it set
abbrev pub twins : List Order → PlanPieces
twins os = under_root (a_task (needs 0 off ∷ leaves 0 on ∷ []) ∷ z_task (needs 0 off ∷ leaves 0 on ∷ []) ∷ []) os

-- A leaves flag 0 set, C leaves it clear, Z needs it clear
abbrev pub three : List Order → PlanPieces
three os = under_root (a_task (leaves 0 on ∷ []) ∷ work 0 (short C) 3 (leaves 0 off ∷ []) ∷ z_task
    (needs 0 off ∷ []) ∷ []) os

-- A before a choice before Z, C one of its two branches, the other without conditions
abbrev pub picked : PlanPieces
picked = under_root
    (a_task (leaves 0 on ∷ []) ∷ choice (name P I C K) ∷ work 2 (short C) 3 (leaves 0 off ∷ []) ∷ work 2
    (name N O N E) 7 [] ∷ z_task (needs 0 off ∷ []) ∷ [])
    (then 1 2 ∷ then 2 5 ∷ [])

abbrev pub starred : List Trial
starred =
    trial (B none_set in_order) CLEAR [] (begin coms ∷ begin 5 ∷ end 77 ∷ begin 256 ∷ [])
    (number no_task ∷ number no_task ∷ number no_task ∷ number no_task ∷ [])
    (state_bytes none_set (waits 5) (unstarted 5))
    ∷ trial (B none_set in_order) CLEAR [] (begin radi ∷ []) (number order_open ∷ [])
    (state_bytes none_set (waits 5) (unstarted 5))
    ∷ trial (B none_set in_order) CLEAR [] (begin cast ∷ begin cast ∷ [])
    (ok ∷ number wrong_status ∷ []) (state_bytes (one_set 0) (waiting ∷ running ∷ waits 3) (0 ∷ 1 ∷ unstarted 3))
    ∷ trial (B none_set in_order) CLEAR [] (begin cast ∷ end cast ∷ begin satl ∷ begin radi ∷ [])
    (ok ∷ ok ∷ ok ∷ number branch_begun ∷ [])
    (state_bytes (one_set 1) (waiting ∷ done ∷ waiting ∷ waiting ∷ running ∷ []) (0 ∷ 1 ∷ 0 ∷ 0 ∷ 2 ∷ []))
    ∷ trial (B none_set in_order) CLEAR []
    (begin cast ∷ end cast ∷ begin satl ∷ begin radi ∷ end radi ∷ end satl ∷ begin radi ∷ [])
    (ok ∷ ok ∷ ok ∷ number branch_begun ∷ number wrong_status ∷ ok ∷ number branch_begun ∷ [])
    (state_bytes none_set (waiting ∷ done ∷ waiting ∷ waiting ∷ done ∷ []) (0 ∷ 1 ∷ 0 ∷ 0 ∷ 2 ∷ []))
    ∷ trial (B none_set []) OPEN [] (begin cast ∷ begin radi ∷ []) (ok ∷ number pre_unmet ∷ [])
    (state_bytes (one_set 0) (waiting ∷ running ∷ waits 3) (0 ∷ 1 ∷ unstarted 3))
    ∷ trial (B (one_set 0) in_order) DOOMED [] (begin cast ∷ []) (number pre_unmet ∷ [])
    (state_bytes (one_set 0) (waits 5) (unstarted 5))
    ∷ trial holder OPEN [] (begin 1 ∷ begin 2 ∷ end 2 ∷ []) (ok ∷ ok ∷ number inc_broken ∷ [])
    (state_bytes (one_set 0) (waiting ∷ running ∷ running ∷ []) (0 ∷ 1 ∷ 2 ∷ []))
    ∷ trial holder OPEN [] (begin 1 ∷ begin 2 ∷ end 2 ∷ end 1 ∷ end 2 ∷ []) (ok ∷ ok ∷ number inc_broken ∷ ok ∷ ok ∷ [])
    (state_bytes none_set (waiting ∷ done ∷ done ∷ []) (0 ∷ 1 ∷ 2 ∷ []))
    ∷ trial (twins []) OPEN (shown 0 0 off must_pre ∷ []) [] [] (state_bytes none_set (waits 3) (unstarted 3))
    ∷ trial (twins (then 1 2 ∷ [])) DOOMED [] (begin 1 ∷ end 1 ∷ begin 2 ∷ []) (ok ∷ ok ∷ number pre_unmet ∷ [])
    (state_bytes (one_set 0) (waiting ∷ done ∷ waiting ∷ []) (0 ∷ 1 ∷ 0 ∷ []))
    ∷ trial (three (then 1 2 ∷ then 2 3 ∷ [])) CLEAR [] [] [] (state_bytes none_set (waits 4) (unstarted 4))
    ∷ trial (three (then 2 3 ∷ [])) OPEN [] [] [] (state_bytes none_set (waits 4) (unstarted 4))
    ∷ trial picked OPEN [] (begin 1 ∷ end 1 ∷ begin 4 ∷ end 4 ∷ begin 5 ∷ [])
    (ok ∷ ok ∷ ok ∷ ok ∷ number pre_unmet ∷ [])
    (state_bytes (one_set 0) (waiting ∷ done ∷ waiting ∷ waiting ∷ done ∷ waiting ∷ []) (0 ∷ 1 ∷ 0 ∷ 0 ∷ 2 ∷ 0 ∷ []))
    ∷ []
