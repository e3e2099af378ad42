-- The place that is shown lies within RAM, so that the part can be cut there.
use Rattle.std.proofs.Common.{Some, length, sym, ap, ◌∙◌, subst, le_of_lt}
use Rattle.memory.proofs.Places.{PlaceWithin}
use Rattle.memory.proofs.Windows.{shown_within}
use Rattle.memory.proofs.window.Goals as goal

pub slice_bounds-result-count-in-Some-Ram : goal.slice_bounds-result-count-in-Some-Ram
slice_bounds-result-count-in-Some-Ram c =
    let shown = sym c.shown_place.ensures ∙ c.in-Some-Ram.is ∙ ap Some c.in-Some-Ram.field-0-is in
    le_of_lt (subst (PlaceWithin (length c.args.flash.now) (length c.args.ram.now)) shown (shown_within _ _))
