-- The numbers of the causes (01: no.; 02), and what a call returns and tells by them. Definitions only.
use Rattle.std.specs.Prelude.{◌⊎◌, ℕ}
use Rattle.std.proofs.Common.{inl, inr}
use Rattle.std.specs.declared.result.Result.{Result}
use Rattle.std.specs.declared.result.Result.TheVariants.{Ok, Err}
use Rattle.answers.specs.declared.Refusal.{Refusal}
use Rattle.answers.specs.declared.Refusal.TheVariants.{TooShort, BadSizes, WrongLength, BadStart, BadName, BadEntry}
use Rattle.answers.specs.declared.Refusal.TheVariants.{BadParent, Childless, BadCondition, ConditionsFall, BothSigns}
use Rattle.answers.specs.declared.Refusal.TheVariants.{NoPostcondition, BadOrder, OrdersFall, NoRoom, Malformed}
use Rattle.answers.specs.declared.Refusal.TheVariants.{NoSuchNode, WrongStatus, OtherBranch, OrderOpen, Unmet, Broken}
use Rattle.answers.specs.declared.Refusal.TheVariants.{UnfitRoot, NoSequence, TasksFall, Opposed, NotOptional}
use Rattle.answers.specs.declared.Refusal.TheVariants.{BadBlocked, NoBranch, BadRecipe, NoMember, SameMembers}
use Rattle.answers.specs.declared.Refusal.TheVariants.{MergedSizes, StartsApart}

abbrev pub number : Refusal → ℕ
number TooShort = 1
number BadSizes = 2
number WrongLength = 3
number BadStart = 4
number BadName = 5
number BadEntry = 6
number BadParent = 7
number Childless = 8
number BadCondition = 9
number ConditionsFall = 10
number BothSigns = 11
number NoPostcondition = 12
number BadOrder = 13
number OrdersFall = 14
number NoRoom = 15
number Malformed = 16
number NoSuchNode = 17
number WrongStatus = 18
number OtherBranch = 19
number OrderOpen = 20
number Unmet = 21
number Broken = 22
number UnfitRoot = 23
number NoSequence = 24
number TasksFall = 25
number Opposed = 26
number NotOptional = 27
number BadBlocked = 28
number NoBranch = 29
number BadRecipe = 30
number NoMember = 31
number SameMembers = 32
number MergedSizes = 33
number StartsApart = 34

-- 0, or the number of the cause
abbrev pub returned : {A : Type 0} → Result A Refusal → ℕ
returned (Ok x) = 0
returned (Err e) = number e

-- the number of the cause, or what is answered
abbrev pub told : {A : Type 0} → Result A Refusal → ℕ ⊎ A
told (Err e) = inl (number e)
told (Ok x) = inr x
