use Rattle.std.proofs.Common.{rules}
use Rattle.display.proofs.SinksLaws.{form_taken}
use Rattle.display.proofs.forms.FormSink.run.Goals as goal

pub returns : goal.returns
returns c = search (rules, form_taken)
