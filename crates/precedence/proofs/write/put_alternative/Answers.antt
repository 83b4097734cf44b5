use Rattle.precedence.proofs.WriteWholeCode.{renaming_put}
use Rattle.precedence.proofs.write.put_alternative.Goals as goal

pub symbols-s-requires : goal.symbols-s-requires
symbols-s-requires c = search renaming_put

pub put_parts-q-requires : goal.put_parts-q-requires
put_parts-q-requires c = search renaming_put

pub returns-then-q-lim : goal.returns-then-q-lim
returns-then-q-lim c = search renaming_put

pub returns-else-q-lim : goal.returns-else-q-lim
returns-else-q-lim c = search renaming_put
