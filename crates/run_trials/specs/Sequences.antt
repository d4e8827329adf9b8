-- Trial plans for 02's sequence of the root's children (101, 109), and what `sequence` answers for them. Definitions
-- only.
use Rattle.std.specs.Prelude.{ℕ, ◌≡◌, ◌⊎◌, List, [], ◌∷◌, ◌++◌, replicate}
use Rattle.std.proofs.Common.{inl, inr}
use Rattle.runs.specs.Plan.{Kind, all_of, any_of, optional}
use Rattle.sequence.specs.Sequence.{Finding, found_in, Sequenced}
use Rattle.run_trials.specs.Written.{Entry, Order, then, PlanPieces, bytes_of}
use Rattle.run_trials.specs.Terms.{short, off, on, needs, leaves, group, work, none_set, under_root, a_task}
use Rattle.run_trials.specs.Terms.{z_task, A, C, G, O, R, Z}

-- a plan, and what is answered for it
pub record SequenceRow : Type 0 where
  pub plan : PlanPieces
  pub answer : ℕ ⊎ List ℕ

abbrev pub AllSequenced : List SequenceRow → Type 0
AllSequenced [] = Unit {0}
AllSequenced (c ∷ l) = ((r : Finding) → Sequenced (bytes_of c.plan) r → found_in r ≡ c.answer) × AllSequenced l

-- ---- the rows
abbrev refuses : PlanPieces → ℕ → SequenceRow
refuses w n = record { plan = w; answer = inl n }

abbrev finds : PlanPieces → List ℕ → SequenceRow
finds w xs = record { plan = w; answer = inr xs }

-- A leaves flag 0 set, Z needs it clear
abbrev needy : List Order → PlanPieces
needy os = under_root (a_task (leaves 0 on ∷ []) ∷ z_task (needs 0 off ∷ []) ∷ []) os

-- a root of the kind k with these nodes, 2 flags
abbrev pub rooted : Kind → List Entry → PlanPieces
rooted k l = record { flags = 2; start = none_set; entries = group k 255 (short R) ∷ l; orders = [] }

abbrev pub bare : Entry
bare = work 0 (short A) 1 []

abbrev pub of_sequences : List SequenceRow
of_sequences =
    -- Z goes first; not against the plan's own order
    finds (needy []) (2 ∷ 1 ∷ [])
    ∷ refuses (needy (then 1 2 ∷ [])) 24
    -- the same two inside one child: no sequence parts them
    ∷ refuses (under_root (group all_of 0 (short G) ∷ work 1 (short A) 2 (leaves 0 on ∷ []) ∷ work 1 (short Z) 5
    (needs 0 off ∷ []) ∷ []) []) 24
    -- opposite leavings (104) are no clash one after the other; of both sequences the first
    ∷ finds (under_root (a_task (leaves 0 on ∷ []) ∷ z_task (leaves 0 off ∷ []) ∷ []) []) (1 ∷ 2 ∷ [])
    -- three that have to go in falling order
    ∷ finds (rooted all_of (a_task (leaves 0 on ∷ []) ∷ work 0 (short C) 3 (needs 0 off ∷ leaves 1 on ∷ []) ∷ z_task
    (needs 1 off ∷ []) ∷ [])) (3 ∷ 2 ∷ 1 ∷ [])
    -- 1 goes first, but 2 not next: the search goes back one turn
    ∷ finds (under_root (bare ∷ a_task (leaves 0 on ∷ []) ∷ z_task (needs 0 off ∷ []) ∷ []) []) (1 ∷ 3 ∷ 2 ∷ [])
    -- an optional group may be skipped, so it restores nothing for Z; of three sequences the first
    ∷ finds (under_root (a_task (leaves 0 on ∷ []) ∷ group optional 0 (short O) ∷ work 2 (short C) 3 (leaves 0 off ∷ [])
    ∷ z_task (needs 0 off ∷ []) ∷ []) []) (2 ∷ 4 ∷ 1 ∷ [])
    -- by numbers, not by names or digits: Z before A, 2 before 10
    ∷ finds (under_root (z_task [] ∷ group all_of 0 (short G) ∷ (replicate 7 (work 2 (short C) 1 [])
    ++ bare ∷ [])) []) (1 ∷ 2 ∷ 10 ∷ [])
    -- one child, of eight tasks of its own; seven children and eight
    ∷ finds (under_root (group all_of 0 (short G) ∷ replicate 8 (work 1 (short A) 1 [])) []) (1 ∷ [])
    ∷ finds (under_root (replicate 7 bare) []) (1 ∷ 2 ∷ 3 ∷ 4 ∷ 5 ∷ 6 ∷ 7 ∷ [])
    ∷ refuses (under_root (replicate 8 bare) []) 23
    -- other roots; 1 to 14 come first
    ∷ refuses (record { flags = 1; start = none_set; entries = work 255 (short A) 1 [] ∷ []; orders = [] }) 23
    ∷ refuses (rooted any_of (bare ∷ [])) 23
    ∷ refuses (rooted optional (bare ∷ [])) 23
    ∷ refuses (rooted any_of (work 0 (short A) 1 (needs 2 off ∷ []) ∷ [])) 9
    ∷ []
