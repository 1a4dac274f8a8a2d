use Rattle.std.proofs.Common.{◌≡◌, ◌-◌, ◌≤◌, ◌++◌, length, take, drop}
use Rattle.page_tokens.specs.HtmlClasses.{has}
use Rattle.page_tokens.specs.HtmlReading.{after_run, run_of}
use Rattle.page_tokens.proofs.html_runs.run.Given as goal

abbrev pub invariant-taking : goal.invariant-taking
invariant-taking l = record {
  in_range : l.taken ≤ length l.bytes;
  front : take l.taken l.bytes ++ run_of (has l.class) (drop l.taken l.bytes) ≡ run_of (has l.class) l.bytes;
  rest : after_run (has l.class) (drop l.taken l.bytes) ≡ after_run (has l.class) l.bytes;
}

abbrev pub decreases-taking : goal.decreases-taking
decreases-taking l = length l.bytes - l.taken
