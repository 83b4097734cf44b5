-- What takes the bytes of a printed form: one byte more is a step. Assumes nothing: these are definitions.
use Rattle.std.specs.Prelude.{◌≡◌, Bool, List, [], ◌∷◌, ℕ}
use Rattle.parse_tree.specs.Plain.Tree.{Sym, Syms, count}
use Rattle.parse_tree.specs.Plain.Display.{shown_all, print}
use Rattle.texts.specs.declared.Map.{Map}
use Rattle.display.specs.Standing.{SymStands, SymsStand}
use Rattle.display.specs.Follow.{between_by}

-- s with bytes more
unfoldable pub all_of : {A : Type 0} → (A → ℕ → A) → A → List ℕ → A
all_of more s [] = s
all_of more s (b ∷ bs) = all_of more (more s b) bs

-- r is s with xs more
pub record Taken {A : Type 0} (more : A → ℕ → A) (s : A) (xs : List ℕ) (r : A) : Type 0 where
  pub is : r ≡ all_of more s xs

module _ {A : Type 0} (more : A → ℕ → A) (s w : List ℕ) (m : Map) (wd : ℕ) where
  -- r is the place behind whatever symbol stands there, and y is x with its printed form more
  pub record PrintsSymbol (left at : ℕ) (x : A) (r : ℕ) (y : A) : Type 0 where
    pub each : (four : Bool) (e : ℕ) (z : Sym) → SymStands s w m wd four left at e z → (r ≡ e) × (y ≡ all_of more x (print z))

  -- r is the place behind whatever n symbols stand there, straight inside a command of the code c, and y is x with their printed forms more
  pub record PrintsList (n left at c : ℕ) (x : A) (r : ℕ) (y : A) : Type 0 where
    pub each : (four : Bool) (e : ℕ) (xs : Syms) → count xs ≡ n → SymsStand s w m wd four left at e xs → (r ≡ e) × (y ≡ all_of more x (shown_all xs (between_by c 1) []))
