-- The scope of work's numbers: that of a fault is not "ran", and each fits a byte.
use Prim.Native.Nat.{◌<◌}
use lib.Dec.{lit<}
use Rattle.memory.specs.declared.Fault.{Fault}
use Rattle.memory.specs.declared.Fault.TheVariants.{Nowhere, Denied}
use Rattle.steps.specs.Answers.{fault_number, number_of}
use Rattle.steps.specs.declared.Answer.{Answer}
use Rattle.steps.specs.declared.Answer.TheVariants.{Ran, SetUp, Outside, Undefined, SwitchedOff, Stack, Faulted}

pub fault_number_lem : (f : Fault) → (0 < fault_number f) × (fault_number f < 256)
fault_number_lem Nowhere = (lit< tt, lit< tt)
fault_number_lem Denied = (lit< tt, lit< tt)

pub in_byte : (a : Answer) → number_of a < 256
in_byte Ran = lit< tt
in_byte SetUp = lit< tt
in_byte Outside = lit< tt
in_byte Undefined = lit< tt
in_byte SwitchedOff = lit< tt
in_byte Stack = lit< tt
in_byte (Faulted f a e) = (fault_number_lem f).1
