-- What the set-up is tested for is the definition's, and then the word decides.
use Rattle.std.proofs.Common.{ℕ, ◌^◌, ◌<◌}
use Rattle.ground.specs.Lists.{EachBelow}
use Rattle.steps.specs.Benches.{InTypes, Lent, Bench, areas_in}
use Rattle.bench.specs.Inside.{AreBytes}
use Rattle.bench.proofs.Ends.{not_files, not_areas, accepts, steps, set_up}
use Rattle.bench.proofs.step.Goals as goal
use Rattle.bench.proofs.step.Goals.{else-files_accepted-via-then-files_accepted+else-accepted, else-files_accepted-via-else-files_accepted}

-- what came in is what its types hold
came : {l : Lent} {w : ℕ} {b : Bench} → w < 2 ^ 32 → EachBelow 256 b.vectors × EachBelow 256 l.predicates × EachBelow (2 ^ 64) b.scalars
    → AreBytes (areas_in l b) → InTypes l w b
came word files areas =
    record {
      word = word;
      vectors = files.0;
      predicates = files.1;
      scalars = files.2;
      flash = areas.flash;
      flash_rights = areas.flash_rights;
      ram = areas.ram;
      ram_rights = areas.ram_rights;
    }

pub accepted_step-requires : goal.accepted_step-requires
accepted_step-requires c =
    accepts _ _ _ c.files_accepted.ensures.accepted _ c.areas-areas.ensures.lent _ c.accepted.ensures c.if-files_accepted.true c.if-accepted.true

pub returns-then-accepted : goal.returns-then-accepted
returns-then-accepted c =
    let types = came c.ranges.word.fits c.files_accepted.ensures.in_types c.areas-areas.ensures.in_types in
    steps _ _ _ types
    (accepts _ _ _ c.files_accepted.ensures.accepted _ c.areas-areas.ensures.lent _ c.accepted.ensures c.if-files_accepted.true c.if-accepted.true)
    _ _ c.accepted_step.ensures

pub returns : goal.returns
returns c =
    let types = came c.ranges.word.fits c.files_accepted.ensures.in_types c.areas-areas.ensures.in_types in
    let files = c.files_accepted.ensures.accepted in
    elim c.else-files_accepted.branch [
      | else-files_accepted-via-then-files_accepted+else-accepted w ↦ set_up _ _ _ types
          (not_areas _ _ _ files _ c.areas-areas.ensures.lent _ w.accepted.ensures w.if-files_accepted.true w.if-accepted.false)
      | else-files_accepted-via-else-files_accepted w ↦ set_up _ _ _ types (not_files _ _ _ files w.if-files_accepted.false)
    ]
