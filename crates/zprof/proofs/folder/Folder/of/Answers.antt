-- The files have the rows of the profile.
use Rattle.std.proofs.Common.{◌≡◌, List, [], ◌∷◌, ap, ap₂, subst, rules}
use Rattle.trace.specs.Trace.{Step}
use Rattle.profile.specs.Listed.{AreAddressRows}
use Rattle.profile.specs.Profiled.{Profiled, series_in}
use Rattle.profile.specs.Series.{AreSeries}
use Rattle.zsim.specs.Outputs.{NamedFile}
use Rattle.zprof.specs.HaltRows.{AreHaltRows}
use Rattle.zprof.specs.LinesUsed.{AreLinesUsed}
use Rattle.zprof.specs.ProfileFiles.{profile_of}
use Rattle.zprof.proofs.folder.Folder.of.Goals as goal

pub returns : goal.returns
returns c =
    let machine = c.args.machine.now in
    let watched = c.args.watched.now in
    let steps = watched.first.steps in
    let p = profile_of machine c.args.command.now.every steps in
    let is = c.requires.profile in
    let profile_is : c.first-profile.result.now ≡ p = search (c.first-profile.ensures, is, rules) in
    let jumps_are : c.second-jumps.result.now ≡ steps = search rules in
    let callgrind = c.in_ok-callgrind.ensures in
    let lines = c.in_ok-lines.ensures in
    let series = c.in_ok-series.ensures in
    let halts = c.in_ok-halts.ensures in
    record {
      rows = record { addresses = callgrind.0; lines = lines.0; series = series.0; halts = halts.0 };
      rows_are = record {
        addresses_are = subst (λ (q : Profiled). AreAddressRows q c.args.command.now.separate callgrind.0) profile_is callgrind.1;
        lines_are = subst (λ (q : Profiled). AreLinesUsed q lines.0) profile_is lines.1;
        series_are = subst (λ (q : Profiled). AreSeries (series_in q).rows series.0) profile_is series.1;
        halts_are = subst (λ (s : List Step). AreHaltRows s c.args.results.now.cores halts.0) jumps_are halts.1;
      };
      files_are = ap₂ (λ (f : NamedFile) (fs : List NamedFile). f ∷ fs) callgrind.2
          (ap₂ (λ (f : NamedFile) (fs : List NamedFile). f ∷ fs) lines.2
          (ap₂ (λ (f : NamedFile) (fs : List NamedFile). f ∷ fs) series.2 (ap (λ (f : NamedFile). f ∷ []) halts.2)));
    }
