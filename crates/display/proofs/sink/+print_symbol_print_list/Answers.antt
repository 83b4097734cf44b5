use Rattle.display.proofs.ListCode.{listing}
use Rattle.display.proofs.SymbolCode.{printing}
use Rattle.display.proofs.sink.+print_symbol_print_list.Goals as goal

pub print_symbol-bounds-words-at : goal.print_symbol-bounds-words-at
print_symbol-bounds-words-at g t c = search printing

pub print_symbol-overflow_add-e : goal.print_symbol-overflow_add-e
print_symbol-overflow_add-e g t c = search printing

pub print_symbol-inside-n-requires : goal.print_symbol-inside-n-requires
print_symbol-inside-n-requires g t c = search printing

pub print_symbol-before-requires : goal.print_symbol-before-requires
print_symbol-before-requires g t c = search printing

pub print_symbol-overflow_sub-left : goal.print_symbol-overflow_sub-left
print_symbol-overflow_sub-left g t c = search printing

pub print_symbol-print_list-q-requires : goal.print_symbol-print_list-q-requires
print_symbol-print_list-q-requires g t c = search printing

pub print_symbol-behind-requires : goal.print_symbol-behind-requires
print_symbol-behind-requires g t c = search printing

pub print_symbol-returns : goal.print_symbol-returns
print_symbol-returns g t c = search printing

pub print_list-loop-k-init : goal.print_list-loop-k-init
print_list-loop-k-init g t c = search listing

pub print_list-print_symbol-p-requires : goal.print_list-print_symbol-p-requires
print_list-print_symbol-p-requires g t c = λ κs o. (search listing, (search listing, (search listing, search listing)))

pub print_list-loop-k-preserved : goal.print_list-loop-k-preserved
print_list-loop-k-preserved g t c = search listing

pub print_list-returns : goal.print_list-returns
print_list-returns g t c = search listing
