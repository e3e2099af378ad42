-- What a load's shape decides of its plan, read off the struct of the code.
use Rattle.steps.specs.Plans.{Spread}
use Rattle.plans.specs.declared.families.Spread as S

abbrev pub spread_by : S.Spread → Spread
spread_by s = record { start = s.start.0; elements = s.elements; filled = s.filled; rule = s.rule; consulted = s.consulted; back = s.back }
