-- Plans at the limits of a merged plan, and what `merge` answers for two of them (112: "a pooled size passes its
-- limit"). Definitions only.
use Rattle.std.specs.Prelude.{ℕ, ◌+◌, ◌/◌, ◌%◌, ◌≡◌, ◌⊎◌, cond, List, [], ◌∷◌, eqb, length}
use Rattle.std.proofs.Common.{inl, inr}
use Rattle.plan_layout.specs.declared.Sizes.{Sizes}
use Rattle.plan_layout.specs.Fields.{Fields, laid_bytes}
use Rattle.plan_merge.specs.Calls.{Merges}

-- a plan of these sizes: tasks under an all-of root. Condition i is that task 1 + i / 64 needs flag i mod 64 clear;
-- order j has task 1 + j / 20 before task 21 + j mod 20; each byte of the start flags is x.
abbrev pub grid_fields : ℕ → Sizes → Fields
grid_fields x s = record {
  sizes = s;
  start = λ k. x;
  name = λ k. 65;
  parent = λ n. cond (eqb n 0) 255 0;
  kind = λ n. cond (eqb n 0) 1 0;
  minutes = λ n. 0;
  task = λ i. 1 + i / 64;
  value = λ i. i % 64;
  earlier = λ j. 1 + j / 20;
  later = λ j. 21 + j % 20;
}

-- its bytes
abbrev pub grid_bytes : ℕ → Sizes → List ℕ
grid_bytes x s = laid_bytes (grid_fields x s)

-- two such plans, how many bytes are lent, and the answer
pub record LimitRow : Type 0 where
  pub first_start : ℕ
  pub first : Sizes
  pub second_start : ℕ
  pub second : Sizes
  pub room : ℕ
  pub answer : ℕ ⊎ ℕ

abbrev pub RowLimited : LimitRow → Type 0
RowLimited w = (out out' : List ℕ) (a : ℕ ⊎ ℕ) → length out ≡ w.room
    → Merges (grid_bytes w.first_start w.first) (grid_bytes w.second_start w.second) out a out'
    → a ≡ w.answer

abbrev pub AllLimited : List LimitRow → Type 0
AllLimited [] = Unit {0}
AllLimited (w ∷ l) = RowLimited w × AllLimited l

abbrev pub sizes_for : ℕ → ℕ → ℕ → Sizes
sizes_for n c k = record { nodes = n; conditions = c; orders = k; flags = 64 }

abbrev row : Sizes → Sizes → ℕ → ℕ ⊎ ℕ → LimitRow
row s t n a = record { first_start = 0; first = s; second_start = 0; second = t; room = n; answer = a }

abbrev pub at_limits : List LimitRow
at_limits =
    -- 128 nodes pass, 129 do not; 1,024 conditions and 1,025; 512 orders and 513
    row (sizes_for 64 0 0) (sizes_for 63 0 0) 2048 (inr 1040)
    ∷ row (sizes_for 64 0 0) (sizes_for 64 0 0) 2048 (inl 33)
    ∷ row (sizes_for 9 512 0) (sizes_for 9 512 0) 4096 (inr 3240)
    ∷ row (sizes_for 9 512 0) (sizes_for 10 513 0) 4096 (inl 33)
    ∷ row (sizes_for 41 0 256) (sizes_for 41 0 256) 2048 (inr 1704)
    ∷ row (sizes_for 41 0 256) (sizes_for 41 0 257) 2048 (inl 33)
    -- 33 comes before 34, and before 15
    ∷ record {
      first_start = 1;
      first = sizes_for 64 0 0;
      second_start = 0;
      second = sizes_for 64 0 0;
      room = 0;
      answer = inl 33;
    }
    ∷ []
