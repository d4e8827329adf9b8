-- Inner contracts: a plan is written by the byte of each part. Definitions only.
use Rattle.std.specs.Prelude.{ℕ, ◌≡◌, List}
use Rattle.base.specs.Answers.{overlay}
use Rattle.plan_layout.specs.declared.Sizes.{Sizes}
use Rattle.plan_layout.specs.declared.Part.{Part}
use Rattle.plan_layout.specs.Layout.{plan_length, part_at, PartOf}

-- what is asked of each part that a plan of these sizes has
abbrev pub TakesParts : (Part → Type 0) → Sizes → Type 0
TakesParts takes s = (p : Part) → PartOf s p → takes p

-- the first bytes are those of their parts, whatever bytes f the parts are given
abbrev pub WritesParts : (Part → ℕ → Type 0) → Sizes → List ℕ → List ℕ → Type 0
WritesParts gives s out out' = (f : Part → ℕ) → ((p : Part) (x : ℕ) → PartOf s p → gives p x → x ≡ f p)
    → out' ≡ overlay (λ i. f (part_at s i)) (plan_length s) out
