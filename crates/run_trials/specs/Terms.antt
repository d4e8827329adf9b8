-- The terms in which trial plans and calls are written down: names, conditions, nodes, flags, calls, rows. Definitions
-- only.
use Rattle.std.specs.Prelude.{ℕ, Bool, true, false, List, [], ◌∷◌, replicate, eqb, ltb}
use Rattle.runs.specs.Plan.{Kind, task, all_of, any_of, Place, pre, inc, post, place_number, sign_number}
use Rattle.plan_codes.specs.Values.{value_of}
use Rattle.runs.specs.Execution.{Status, waiting, start, finish, skip}
use Rattle.runs.specs.Verdict.{Verdict}
use Rattle.runs.specs.Calls.{Call, one}
use Rattle.run_trials.specs.Written.{Entry, Order, PlanPieces}
use Rattle.run_trials.specs.Trial.{Trial, Shown}

-- ---- names
pub data Letter : Type 0 where
  A C D E G I K L M N O P Q R S Tee U W Z dash : Letter

abbrev pub ascii : Letter → ℕ
ascii A = 65
ascii C = 67
ascii D = 68
ascii E = 69
ascii G = 71
ascii I = 73
ascii K = 75
ascii L = 76
ascii M = 77
ascii N = 78
ascii O = 79
ascii P = 80
ascii Q = 81
ascii R = 82
ascii S = 83
ascii Tee = 84
ascii U = 85
ascii W = 87
ascii Z = 90
ascii dash = 45

abbrev pub name : Letter → Letter → Letter → Letter → List ℕ
name a b c d = ascii a ∷ ascii b ∷ ascii c ∷ ascii d ∷ []

abbrev pub short : Letter → List ℕ
short a = name a dash dash dash

-- ---- conditions: a task needs, holds or leaves flag f off or on (01: clear or set)
abbrev pub off : Bool
off = false

abbrev pub on : Bool
on = true

abbrev pub value_for : Place → ℕ → Bool → ℕ
value_for k f v = value_of f (sign_number v) (place_number k)

abbrev pub needs : ℕ → Bool → ℕ
needs f v = value_for pre f v

abbrev pub holds : ℕ → Bool → ℕ
holds f v = value_for inc f v

abbrev pub leaves : ℕ → Bool → ℕ
leaves f v = value_for post f v

-- ---- nodes: a group under node u; the root, which is all_of; a choice under the root; a task under node u
abbrev pub group : Kind → ℕ → List ℕ → Entry
group k u n = record { name = n; kind = k; parent = u; minutes = 0; values = [] }

abbrev pub root : List ℕ → Entry
root n = group all_of 255 n

abbrev pub choice : List ℕ → Entry
choice n = group any_of 0 n

abbrev pub work : ℕ → List ℕ → ℕ → List ℕ → Entry
work u n m l = record { name = n; kind = task; parent = u; minutes = m; values = l }

-- ---- flags
abbrev pub none_set : ℕ → Bool
none_set f = false

abbrev pub one_set : ℕ → ℕ → Bool
one_set g f = eqb f g

abbrev pub two_set : ℕ → Bool
two_set f = ltb f 2

-- ---- calls and what they return
abbrev pub begin : ℕ → Call
begin t = one (start t)

abbrev pub end : ℕ → Call
end t = one (finish t)

abbrev pub omit : ℕ → Call
omit g = one (skip g)

abbrev pub ok : ℕ
ok = 0

-- ---- under an all_of root: A; Z, the last
abbrev pub under_root : List Entry → List Order → PlanPieces
under_root l os = record { flags = 1; start = none_set; entries = root (name R O O Tee) ∷ l; orders = os }

abbrev pub a_task : List ℕ → Entry
a_task l = work 0 (short A) 2 l

abbrev pub z_task : List ℕ → Entry
z_task l = work 0 (short Z) 5 l

-- ---- rows: plan, list of blocked nodes, verdict, marks, calls, what they return, the state after them
abbrev pub trial_without : PlanPieces → List ℕ → Verdict → List Shown → List Call → List ℕ → List ℕ → Trial
trial_without w xs v ms cs rs l =
    record { plan = w; blocked = xs; verdict = v; marks = ms; calls = cs; returned = rs; left = l }

-- with nothing blocked
abbrev pub trial : PlanPieces → Verdict → List Shown → List Call → List ℕ → List ℕ → Trial
trial w v ms cs rs l = trial_without w [] v ms cs rs l

-- all tasks wait; none has been started
abbrev pub waits : ℕ → List Status
waits n = replicate n waiting

abbrev pub unstarted : ℕ → List ℕ
unstarted n = replicate n 0
