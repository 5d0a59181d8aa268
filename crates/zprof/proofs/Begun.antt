-- How a call ended that was not begun, and how one ended whose parts are known.
use Rattle.std.proofs.Common.{◌≡◌, Option, Some, None, IfSome, inl, inr, refl, subst, sym}
use Rattle.zsim.specs.declared.ended.Kept.{Kept}
use Rattle.zsim.specs.declared.ended.Status.{Status}
use Rattle.zsim.specs.declared.ended.Status.TheVariants as status
use Rattle.zsim.specs.Ended.{KeepsNothing}
use Rattle.zsim.specs.Seen.{FilesSeen, SinkSeen}
use Rattle.zsim.specs.Steps.{IsQuiet}
use Rattle.zprof.specs.CommandLine.{Profiling}
use Rattle.zprof.specs.Ended.{EndsAs, IsSilent}

-- memory ran out before anything was read, whatever the words are
pub not_begun : (command : Option Profiling) (k : Kept) (files : FilesSeen) (out : SinkSeen) → KeepsNothing k → IsQuiet files → IsSilent out
    → IfSome command (λ c. EndsAs status.NoMemory c k files out)
not_begun None k files out keeps quiet silent = tt
not_begun (Some c) k files out keeps quiet silent =
    inl (
      record {
        not = inr (inl (refl, inl keeps.machine, quiet));
        exe = keeps.exe;
        sched_file = keeps.sched_file;
        schedule = keeps.schedule;
      },
      silent,
    )

-- what holds of some values holds of those that they are
pub put_in : {F O : Type 0} (P : Status → Kept → F → O → Type 0) (s t : Status) (k l : Kept) (f g : F) (o p : O) → s ≡ t → k ≡ l → f ≡ g → o ≡ p → P t l g p → P s k f o
put_in P s t k l f g o p s_is k_is f_is o_is holds =
    subst (λ (s' : Status). P s' k f o) (sym s_is) (subst (λ (k' : Kept). P t k' f o) (sym k_is) (subst (λ f'. P t l f' o) (sym f_is) (subst (λ o'. P t l g o') (sym o_is) holds)))

-- what holds of the command that words are, and of words that are none
pub of_command : (P : Profiling → Type 0) (words : Option Profiling) (c : Profiling) → words ≡ Some c → P c → IfSome words P
of_command P words c is holds = subst (λ (w : Option Profiling). IfSome w P) (sym is) holds

pub of_none : (P : Profiling → Type 0) (words : Option Profiling) → words ≡ None → IfSome words P
of_none P words is = subst (λ (w : Option Profiling). IfSome w P) (sym is) tt
