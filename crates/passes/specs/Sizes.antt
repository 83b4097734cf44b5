-- Question 20 of a finished stage: "atoms at most 65,536, texts, counts and nesting within their operands and 64?". Assumes nothing: these are definitions.
use Rattle.std.specs.Prelude.{ℕ, zero, suc, ◌^◌, Bool, true, false, ◌&&◌, List, [], ◌∷◌, leb, ltb, length}
use Rattle.parse_tree.specs.Plain.Tree.{Text, Over, Sym, Syms, macro, group, leaf, around, over, nil, cons, count, Alternative, Item, item, Stage}

-- whether a test holds of each element
abbrev pub each : {A : Type 0} → (A → Bool) → List A → Bool
each f [] = true
each f (x ∷ xs) = f x && each f xs

-- n8 and n16; a macro call has an argument
abbrev pub over_fits : Over → ℕ → Bool
over_fits (macro n) k = leb 1 k && ltb k 256
over_fits group k = ltb k 65536

-- `left` levels of nesting are left
abbrev mutual
  pub sym_fits : Sym → ℕ → Bool
  sym_fits (leaf s l) zero = false
  sym_fits (leaf s l) (suc left) = true
  sym_fits (around s a x) zero = false
  sym_fits (around s a x) (suc left) = sym_fits x left
  sym_fits (over s o xs) zero = false
  sym_fits (over s o xs) (suc left) = over_fits o (count xs) && syms_fit xs left

  pub syms_fit : Syms → ℕ → Bool
  syms_fit nil left = true
  syms_fit (cons x xs) left = sym_fits x left && syms_fit xs left

-- attrs8, syms16
abbrev pub alternative_fits : Alternative → Bool
alternative_fits a = ltb (length a.attributes) 256 && (ltb (count a.symbols) 65536 && syms_fit a.symbols 64)

-- args8, alts16
abbrev pub item_fits : Item → Bool
item_fits (item d) = ltb (length d.args) 256 && (ltb (length d.alternatives) 65536 && each alternative_fits d.alternatives)
item_fits (Item.terminal s o t) = true

-- w is the width of an atom's number in bytes
unfoldable pub stage_fits : ℕ → Stage → Bool
stage_fits w g = leb (length g.atoms) (256 ^ w) && (each (λ (t : Text). ltb (length t) 65536) g.atoms && each item_fits g.items)
