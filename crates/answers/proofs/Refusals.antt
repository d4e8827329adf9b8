-- The numbers of the causes; what is answered, and what is refused. Assumes nothing.
use mathlib.Core.Path.{◌≡◌}
use Prim.Native.Nat.{ℕ, ◌<◌, ◌≤◌}
use native.Mathlib.Omega.{arith}
use Rattle.std.specs.declared.result.Result.{Result}
use Rattle.std.specs.declared.result.Result.TheVariants.{Ok, Err}
use Rattle.answers.specs.declared.Refusal.{Refusal}
use Rattle.answers.specs.declared.Refusal.TheVariants.{TooShort, BadSizes, WrongLength, BadStart, BadName, BadEntry}
use Rattle.answers.specs.declared.Refusal.TheVariants.{BadParent, Childless, BadCondition, ConditionsFall, BothSigns}
use Rattle.answers.specs.declared.Refusal.TheVariants.{NoPostcondition, BadOrder, OrdersFall, NoRoom, Malformed}
use Rattle.answers.specs.declared.Refusal.TheVariants.{NoSuchNode, WrongStatus, OtherBranch, OrderOpen, Unmet, Broken}
use Rattle.answers.specs.declared.Refusal.TheVariants.{UnfitRoot, NoSequence, TasksFall, Opposed, NotOptional}
use Rattle.answers.specs.declared.Refusal.TheVariants.{BadBlocked, NoBranch, BadRecipe, NoMember, SameMembers}
use Rattle.answers.specs.declared.Refusal.TheVariants.{MergedSizes, StartsApart}
use Rattle.answers.specs.Refusals.{number}

-- 1 to 34
pub numbered : (e : Refusal) → (0 < number e) × (number e ≤ 34)
numbered TooShort = (omega arith, omega arith)
numbered BadSizes = (omega arith, omega arith)
numbered WrongLength = (omega arith, omega arith)
numbered BadStart = (omega arith, omega arith)
numbered BadName = (omega arith, omega arith)
numbered BadEntry = (omega arith, omega arith)
numbered BadParent = (omega arith, omega arith)
numbered Childless = (omega arith, omega arith)
numbered BadCondition = (omega arith, omega arith)
numbered ConditionsFall = (omega arith, omega arith)
numbered BothSigns = (omega arith, omega arith)
numbered NoPostcondition = (omega arith, omega arith)
numbered BadOrder = (omega arith, omega arith)
numbered OrdersFall = (omega arith, omega arith)
numbered NoRoom = (omega arith, omega arith)
numbered Malformed = (omega arith, omega arith)
numbered NoSuchNode = (omega arith, omega arith)
numbered WrongStatus = (omega arith, omega arith)
numbered OtherBranch = (omega arith, omega arith)
numbered OrderOpen = (omega arith, omega arith)
numbered Unmet = (omega arith, omega arith)
numbered Broken = (omega arith, omega arith)
numbered UnfitRoot = (omega arith, omega arith)
numbered NoSequence = (omega arith, omega arith)
numbered TasksFall = (omega arith, omega arith)
numbered Opposed = (omega arith, omega arith)
numbered NotOptional = (omega arith, omega arith)
numbered BadBlocked = (omega arith, omega arith)
numbered NoBranch = (omega arith, omega arith)
numbered BadRecipe = (omega arith, omega arith)
numbered NoMember = (omega arith, omega arith)
numbered SameMembers = (omega arith, omega arith)
numbered MergedSizes = (omega arith, omega arith)
numbered StartsApart = (omega arith, omega arith)

pub some_number : (e : Refusal) → number e ≡ 0 → ⊥
some_number e z = omega (arith, z, (numbered e).0)

module _ {A : Type 0} where
  pub not_ok : {e : Refusal} {x : A} → ◌≡◌ {A = Result A Refusal} (Err e) (Ok x) → ⊥
  not_ok e = let z : ◌≡◌ {A = ℕ} 0 1 = cc in omega arith

  pub same_ok : {x y : A} → ◌≡◌ {A = Result A Refusal} (Ok x) (Ok y) → x ≡ y
  same_ok e = cc
