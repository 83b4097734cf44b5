-- Windows of printed forms: what of a form falls into a window, and what two windows say of two forms. Assumes nothing: these are definitions.
use Rattle.std.specs.Prelude.{◌≡◌, Bool, true, false, List, [], ◌∷◌, ℕ, ◌+◌, ◌-◌, ◌<◌, eqb, leb, length, drop}
use Rattle.octets.specs.Working.Choice.{pick}
use Rattle.octets.specs.Working.Sink.{lay, adv, Laid}
use Rattle.octets.specs.Plain.Runs.{part, same_as}
use Rattle.parse_tree.specs.Plain.Tree.{Sym}
use Rattle.parse_tree.specs.Plain.Display.{print}
use Rattle.texts.specs.declared.Map.{Map}
use Rattle.display.specs.declared.emit.Spot.{Spot}
use Rattle.display.specs.declared.emit.Window.{Window}
use Rattle.display.specs.declared.window.Verdict.{Verdict}
use Rattle.display.specs.declared.window.Verdict.TheVariants.{Same, Differ, More}
use Rattle.display.specs.Standing.{SymStands}

-- of xs as many bytes as p says are skipped, and the others written to o as far as they fit: this leaves o' and the spot r
pub record Emitted (xs : List ℕ) (o : List ℕ) (p r : Spot) (o' : List ℕ) : Type 0 where
  pub skip : r.skip ≡ p.skip - length xs
  pub bytes : o' ≡ lay o (length o) p.to (drop p.skip xs)
  pub after : r.to ≡ adv (length o) p.to (length xs - p.skip)

-- with a byte more
unfoldable pub window_more : Window → ℕ → Window
window_more x b = record {
  bytes = lay x.bytes (length x.bytes) x.spot.to (drop x.spot.skip (b ∷ []));
  spot = record { skip = x.spot.skip - 1; to = adv (length x.bytes) x.spot.to (1 - x.spot.skip) };
}

-- the verdict on two windows, of whose cursors one is i and the other j
unfoldable pub judged : List ℕ → List ℕ → ℕ → ℕ → Verdict
judged x y i j =
    pick (eqb i j)
    (pick (leb i (length x)) (pick (same_as (part 0 (0 + i) x) (part 0 (0 + i) y)) Same Differ)
    (pick (same_as (part 0 (0 + length x) x) (part 0 (0 + length x) y)) More Differ))
    Differ

-- what a window of n bytes says of what is left of two forms
unfoldable pub Seen : Verdict → ℕ → List ℕ → List ℕ → Type 0
Seen Same n xs ys = same_as xs ys ≡ true
Seen Differ n xs ys = same_as xs ys ≡ false
Seen More n xs ys = (n < length xs) × (same_as (drop n xs) (drop n ys) ≡ same_as xs ys)

module _ (s w : List ℕ) (m : Map) (wd left : ℕ) where
  -- the form of each symbol that stands at a, without its first n bytes
  pub record Fills (a n : ℕ) (o : List ℕ) (r : ℕ) (o' : List ℕ) : Type 0 where
    pub fills : (four : Bool) (e : ℕ) (x : Sym) → SymStands s w m wd four left a e x → Laid o (length o) 0 (drop n (print x)) r o'

  -- v is what a window of l bytes says, from n on
  pub record Looks (a b n l : ℕ) (v : Verdict) : Type 0 where
    pub looks : (four four' : Bool) (e e' : ℕ) (x y : Sym) → SymStands s w m wd four left a e x → SymStands s w m wd four' left b e' y → Seen v l (drop n (print x)) (drop n (print y))

  -- r says of each two symbols that stand there whether their forms are the same
  pub record SamePrints (a b : ℕ) (r : Bool) : Type 0 where
    pub says : (four four' : Bool) (e e' : ℕ) (x y : Sym) → SymStands s w m wd four left a e x → SymStands s w m wd four' left b e' y → r ≡ same_as (print x) (print y)
