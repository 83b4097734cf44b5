-- A flat run over symbols that stand in work, as `skip` goes, and what is read of a symbol's command there. wd is the width of an atom's number in bytes.
-- Assumes nothing: these are definitions.
use Rattle.std.specs.Prelude.{ℕ, zero, suc, ◌+◌, ◌-◌, Bool, false, List, leb, ltb, eqb, get_or}
use Rattle.octets.specs.Working.Choice.{pick}
use Rattle.octets.specs.Plain.Numbers.{le_at}
use Rattle.parse_tree.specs.Working.Nodes.{long_of}
use Rattle.parse_tree.specs.Working.Nested.{inside_at}

-- whether the command at a place is an occurrence of the nonterminal `target`
unfoldable pub names_at : ℕ → ℕ → List ℕ → ℕ → Bool
names_at wd target w at = pick (eqb (get_or w at 0) 36) (eqb (le_at wd w (at + 9)) target) false

-- the place behind k symbols from a place on, of which at most f are read
unfoldable pub skip_out : ℕ → ℕ → List ℕ → ℕ → ℕ → ℕ → ℕ
skip_out wd zero w p e k = p
skip_out wd (suc f) w p e k =
    pick (leb e p) p (pick (eqb k 0) p (pick (ltb (e - p) k) p (skip_out wd f w (p + long_of wd (get_or w p 0)) e (k - 1 + inside_at wd w p))))
