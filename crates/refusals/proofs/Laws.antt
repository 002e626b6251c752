-- The laws of specs/Laws.antt. The last line of a law stands for every reason but the first.
use Rattle.std.specs.Prelude.{refl}
use Rattle.refusals.specs.declared.Refusal.TheVariants.{OutOfRange}
use Rattle.refusals.specs.Laws.{ReasonOfNumber, NumbersListed, NumberSome}

pub reason_of_number : ReasonOfNumber
reason_of_number OutOfRange = refl
reason_of_number r = refl

pub numbers_listed : NumbersListed
numbers_listed = refl

pub number_some : NumberSome
number_some OutOfRange = refl
number_some r = refl
