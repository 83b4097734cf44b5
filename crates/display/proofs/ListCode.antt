-- Symbols printed to a sink: the loop of print_list. Assumes nothing.
use mathlib.Core.Path.{◌≡◌, refl, sym, ap, ◌∙◌}
use mathlib.Core.Bool.{Bool}
use mathlib.Core.List.{List, [], ◌++◌, append_assoc}
use Prim.Native.Nat.{ℕ, suc, ◌+◌, ◌-◌, ◌<◌, ◌≤◌}
use native.Mathlib.Omega.{arith}
use borrow.Author.Rules.{rules}
use Rattle.octets.specs.Working.Choice.{pick}
use Rattle.parse_tree.specs.Plain.Tree.{Text, Sym, Syms, nil, cons, count}
use Rattle.parse_tree.specs.Plain.Display.{shown, shown_all, shown_more, print}
use Rattle.parse_tree.proofs.DisplayLaws.{print-then}
use Rattle.texts.specs.declared.Map.{Map}
use Rattle.display.specs.Standing.{SymStands, SymsStand, SomeSym, SomeSyms}
use Rattle.display.specs.Follow.{between_by}
use Rattle.display.specs.Sink.{all_of, Taken, PrintsSymbol, PrintsList}
use Rattle.display.proofs.TakenLaws.{all_append, taken_then}
use Rattle.display.proofs.FollowCode.{shown_from, shown_none, shown_later, shown_first}
use Rattle.display.proofs.StandsLaws.{first_stands, none_stand}
use Rattle.display.proofs.StandsLaws.{more as more_between}

-- between any two symbols stands the same
later : (c j : ℕ) → between_by c (suc j) ≡ between_by c 1
later c j = more_between c j ∙ sym (more_between c 0)

module _ {A : Type 0} (more : A → ℕ → A) (s w : List ℕ) (m : Map) (wd n left at code : ℕ) (f : A) where
  -- k of the symbols xs are to come, from p on; g is f with the others more
  pub record Onward (four : Bool) (e : ℕ) (xs : Syms) (p k d : ℕ) (g : A) : Type 0 where
    pub ys : Syms
    pub many : count ys ≡ k
    pub stand : SymsStand s w m wd four left p e ys
    pub same : all_of more f (shown_all xs (between_by code 1) []) ≡ all_of more g (shown_from d ys (between_by code 1) [])

  pub record Forming (p k d : ℕ) (g : A) : Type 0 where
    pub some : SomeSyms s w m wd k left p
    pub each : (four : Bool) (e : ℕ) (xs : Syms) → count xs ≡ n → SymsStand s w m wd four left at e xs → Onward four e xs p k d g

  pub forming_start : SomeSyms s w m wd n left at → Forming at (n - 0) 0 f
  unfolding shown_from pick
  forming_start h =
      let z : n - 0 ≡ n = omega arith in
      rw z (record {
        some = h;
        each = λ four e xs q z. record { ys = xs; many = q; stand = z; same = refl };
      })

  module _ (p d : ℕ) (g : A) (inv : Forming p (n - d) d g) where
    abbrev k : ℕ
    k = n - d

    pub forming_done : n ≤ d → PrintsList more s w m wd n left at code f p g
    unfolding all_of count
    forming_done z = record { each = λ four e xs q h. go four e xs (inv.each four e xs q h) }
      where
        last : (four : Bool) (e : ℕ) (xs ys : Syms) → count ys ≡ k → SymsStand s w m wd four left p e ys → all_of more f (shown_all xs (between_by code 1) []) ≡ all_of more g (shown_from d ys (between_by code 1) []) → (p ≡ e) × (g ≡ all_of more f (shown_all xs (between_by code 1) []))
        last four e xs nil c h t = (none_stand s w m wd four left p e h, sym (t ∙ ap (all_of more g) (shown_none d (between_by code 1) [])))
        last four e xs (cons y ys) c h t = absurd (omega arith)

        go : (four : Bool) (e : ℕ) (xs : Syms) → Onward four e xs p k d g → (p ≡ e) × (g ≡ all_of more f (shown_all xs (between_by code 1) []))
        go four e xs o = last four e xs o.ys o.many o.stand o.same

    module _ (some : d < n) where
      -- the first of them
      pub forming_first : SomeSym s w m wd left p
      unfolding count
      forming_first = go inv.some.symbols inv.some.many inv.some.stand
        where
          go : (ys : Syms) → count ys ≡ k → SymsStand s w m wd inv.some.four left p inv.some.end ys → SomeSym s w m wd left p
          go nil c h = absurd (omega arith)
          go (cons y ys) c h = record { four = inv.some.four; end = _; symbol = y; stands = (first_stands s w m wd inv.some.four left p inv.some.end y ys h).0 }

      module _ (x : A) (before-x : Taken more g (between_by code d) x) (to : ℕ) (h : A) (printed : PrintsSymbol more s w m wd left p x to h) where
        abbrev k1 : ℕ
        k1 = n - (d + 1)

        -- the first symbol: the place behind it, and what took it goes on
        first : (four : Bool) (e : ℕ) (y : Sym) → SymStands s w m wd four left p e y → (r : Text) → (to ≡ e) × (all_of more g (between_by code d ++ shown y r) ≡ all_of more h r)
        first four e y st r =
            let u = printed.each four e y st in
            let z : between_by code d ++ shown y r ≡ between_by code d ++ (print y ++ r) = ap (λ (v : Text). between_by code d ++ v) (sym (print-then y r)) in
            let o : Taken more x (print y) h = record { is = u.1 } in
            (u.0, ap (all_of more g) (z ∙ sym (append_assoc (between_by code d) (print y) r)) ∙ all_append more g (between_by code d ++ print y) r ∙ ap (λ (v : A). all_of more v r) (sym (taken_then before-x o).is))

        next-some : SomeSyms s w m wd k1 left to
        unfolding count
        next-some = go inv.some.symbols inv.some.many inv.some.stand
          where
            go : (ys : Syms) → count ys ≡ k → SymsStand s w m wd inv.some.four left p inv.some.end ys → SomeSyms s w m wd k1 left to
            go nil r st = absurd (omega arith)
            go (cons y ys) r st =
                let a = first_stands s w m wd inv.some.four left p inv.some.end y ys st in
                let t = (first inv.some.four _ y a.0 []).0 in
                record { four = inv.some.four; end = inv.some.end; symbols = ys; many = omega arith; stand = rw t a.1 }

        next_each : (four : Bool) (e : ℕ) (xs : Syms) → Onward four e xs p k d g → Onward four e xs to k1 (d + 1) h
        unfolding count
        next_each four e xs o = go o.ys o.many o.stand o.same
          where
            go : (ys : Syms) → count ys ≡ k → SymsStand s w m wd four left p e ys → all_of more f (shown_all xs (between_by code 1) []) ≡ all_of more g (shown_from d ys (between_by code 1) []) → Onward four e xs to k1 (d + 1) h
            go nil r st v = absurd (omega arith)
            go (cons y ys) r st v =
                let a = first_stands s w m wd four left p e y ys st in
                let t = first four _ y a.0 (shown_more ys (between_by code 1) []) in
                let t0 = t.0 in
                record { ys = ys; many = omega arith; stand = rw t0 a.1; same = v ∙ ap (all_of more g) (sym (shown_first code d y ys (between_by code 1) [] (later code))) ∙ t.1 ∙ ap (all_of more h) (sym (shown_later d ys (between_by code 1) [])) }

        pub forming_next : Forming to k1 (d + 1) h
        forming_next = record {
          some = next-some;
          each = λ four e xs r st. next_each four e xs (inv.each four e xs r st);
        }

pub ruleset listing = (rules, forming_start, forming_done, forming_first, forming_next)
