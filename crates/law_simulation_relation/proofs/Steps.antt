-- Where the machine stands in a call, and what it means that it follows a result.
use Rattle.std.proofs.Common.{ℕ, List, ℤ, sym, subst}
use Rattle.ob_instr.specs.Image.{World, Point, Over}
use Rattle.ob_instr.proofs.Steps as machine
use Rattle.ob_meaning.specs.Values.{Active, AnObject, State}
use Rattle.ob_meaning.specs.Results.{Why, Res, Gives, Stops, M, bind}
use Rattle.law_simulation_relation.specs.Setting.{Kept, Setting, StandIn, Stands, stopped}

module _ (c : Setting) where
  abbrev pub Reach : Point → Point → Type 0
  Reach x y = machine.Reach c.img x y

  pub here : (x : Point) → Reach x x
  here x = machine.here c.img x

  pub then_reach : {x y z : Point} → Reach x y → Reach y z → Reach x z
  then_reach r q = machine.then_reach c.img r q

  -- the machine at x follows a result: it comes to the point that the value asks for, or stops alike
  abbrev Follows' : {A : Type 0} → Point → (A → State → World → Point) → (A → State → World → Type 0) → Res A → Type 0
  Follows' x to Keep (Gives a s) = (w : World) × Reach x (to a s w) × Keep a s w
  Follows' x to Keep (Stops y s) = (w : World) × Reach x (Over (stopped c y) w) × Stands c s w

  pub record Follows {A : Type 0} (x : Point) (to : A → State → World → Point) (Keep : A → State → World → Type 0) (r : Res A) : Type 0 where
    pub by : Follows' x to Keep r

  pub follows_bind : {A B : Type 0} {x : Point} {to : A → State → World → Point} {to2 : B → State → World → Point} {Keep : A → State → World → Type 0} {Keep2 : B → State → World → Type 0} {r : Res A} {k : A → M B} → Follows x to Keep r → ((a : A) (s : State) (w : World) → Keep a s w → Follows (to a s w) to2 Keep2 (k a s)) → Follows x to2 Keep2 (bind r k)
  follows_bind {A} {B} {x} {to} {to2} {Keep} {Keep2} {r} {k} f g = record { by = join r f.by }
    where
      after : (x y : Point) (r : Res B) → Reach x y → Follows' y to2 Keep2 r → Follows' x to2 Keep2 r
      after x y (Gives b s) l h = (h.0, then_reach l h.1, h.2)
      after x y (Stops z s) l h = (h.0, then_reach l h.1, h.2)

      join : (r : Res A) → Follows' x to Keep r → Follows' x to2 Keep2 (bind r k)
      join (Gives a s) h = after x (to a s h.0) (k a s) h.1 ((g a s h.0 h.2).by)
      join (Stops y s) h = h

  pub follows_after : {A : Type 0} {x y : Point} {to : A → State → World → Point} {Keep : A → State → World → Type 0} {r : Res A} → Reach x y → Follows y to Keep r → Follows x to Keep r
  follows_after {A} {x} {y} {to} {Keep} {r} l f = record { by = join r f.by }
    where
      join : (r : Res A) → Follows' y to Keep r → Follows' x to Keep r
      join (Gives b s) h = (h.0, then_reach l h.1, h.2)
      join (Stops z s) h = (h.0, then_reach l h.1, h.2)

  pub follows_value : {A : Type 0} {x : Point} {to : A → State → World → Point} {Keep : A → State → World → Type 0} {a : A} {s : State} (w : World) → Reach x (to a s w) → Keep a s w → Follows x to Keep (Gives a s)
  follows_value w l h = record { by = (w, l, h) }

  pub follows_stop : {A : Type 0} {x : Point} {to : A → State → World → Point} {Keep : A → State → World → Type 0} {y : Why} {s : State} (w : World) → Reach x (Over (stopped c y) w) → Stands c s w → Follows x to Keep (Stops y s)
  follows_stop w l h = record { by = (w, l, h) }

  -- a longer way to the same value, with less kept
  pub follows_map : {A : Type 0} {x : Point} {to to2 : A → State → World → Point} {Keep Keep2 : A → State → World → Type 0} {r : Res A} → Follows x to Keep r → ((a : A) (s : State) (w : World) → Keep a s w → Reach (to a s w) (to2 a s w)) → ((a : A) (s : State) (w : World) → Keep a s w → Keep2 a s w) → Follows x to2 Keep2 r
  follows_map {A} {x} {to} {to2} {Keep} {Keep2} {r} f l k = record { by = join r f.by }
    where
      join : (r : Res A) → Follows' x to Keep r → Follows' x to2 Keep2 r
      join (Gives b s) h = (h.0, then_reach h.1 (l b s h.0 h.2), k b s h.0 h.2)
      join (Stops z s) h = h

  -- the same, where the point also depends on words that the value does not tell
  abbrev FollowsBy' : {A : Type 0} → Point → (List ℤ → A → State → World → Point) → (List ℤ → A → State → World → Type 0) → Res A → Type 0
  FollowsBy' x to Keep (Gives a s) = (w : World) × (ws : List ℤ) × Reach x (to ws a s w) × Keep ws a s w
  FollowsBy' x to Keep (Stops y s) = (w : World) × Reach x (Over (stopped c y) w) × Stands c s w

  pub record FollowsBy {A : Type 0} (x : Point) (to : List ℤ → A → State → World → Point) (Keep : List ℤ → A → State → World → Type 0) (r : Res A) : Type 0 where
    pub by : FollowsBy' x to Keep r

  pub by_value : {A : Type 0} {x : Point} {to : List ℤ → A → State → World → Point} {Keep : List ℤ → A → State → World → Type 0} {a : A} {s : State} (ws : List ℤ) (w : World) → Reach x (to ws a s w) → Keep ws a s w → FollowsBy x to Keep (Gives a s)
  by_value ws w l h = record { by = (w, ws, l, h) }

  pub by_after : {A : Type 0} {x y : Point} {to : List ℤ → A → State → World → Point} {Keep : List ℤ → A → State → World → Type 0} {r : Res A} → Reach x y → FollowsBy y to Keep r → FollowsBy x to Keep r
  by_after {A} {x} {y} {to} {Keep} {r} l f = record { by = join r f.by }
    where
      join : (r : Res A) → FollowsBy' y to Keep r → FollowsBy' x to Keep r
      join (Gives b s) h = (h.0, h.1, then_reach l h.2, h.3)
      join (Stops z s) h = (h.0, then_reach l h.1, h.2)

  -- a value first, and then what depends on words
  pub bind_by : {A B : Type 0} {x : Point} {to : A → State → World → Point} {to2 : List ℤ → B → State → World → Point} {Keep : A → State → World → Type 0} {Keep2 : List ℤ → B → State → World → Type 0} {r : Res A} {k : A → M B} → Follows x to Keep r → ((a : A) (s : State) (w : World) → Keep a s w → FollowsBy (to a s w) to2 Keep2 (k a s)) → FollowsBy x to2 Keep2 (bind r k)
  bind_by {A} {B} {x} {to} {to2} {Keep} {Keep2} {r} {k} f g = record { by = join r f.by }
    where
      after : (x y : Point) (r : Res B) → Reach x y → FollowsBy' y to2 Keep2 r → FollowsBy' x to2 Keep2 r
      after x y (Gives b s) l h = (h.0, h.1, then_reach l h.2, h.3)
      after x y (Stops z s) l h = (h.0, then_reach l h.1, h.2)

      join : (r : Res A) → Follows' x to Keep r → FollowsBy' x to2 Keep2 (bind r k)
      join (Gives a s) h = after x (to a s h.0) (k a s) h.1 ((g a s h.0 h.2).by)
      join (Stops y s) h = h

  pub by_bind_by : {A B : Type 0} {x : Point} {to : List ℤ → A → State → World → Point} {to2 : List ℤ → B → State → World → Point} {Keep : List ℤ → A → State → World → Type 0} {Keep2 : List ℤ → B → State → World → Type 0} {r : Res A} {k : A → M B} → FollowsBy x to Keep r → ((ws : List ℤ) (a : A) (s : State) (w : World) → Keep ws a s w → FollowsBy (to ws a s w) to2 Keep2 (k a s)) → FollowsBy x to2 Keep2 (bind r k)
  by_bind_by {A} {B} {x} {to} {to2} {Keep} {Keep2} {r} {k} f g = record { by = join r f.by }
    where
      after : (x y : Point) (r : Res B) → Reach x y → FollowsBy' y to2 Keep2 r → FollowsBy' x to2 Keep2 r
      after x y (Gives b s) l h = (h.0, h.1, then_reach l h.2, h.3)
      after x y (Stops z s) l h = (h.0, then_reach l h.1, h.2)

      join : (r : Res A) → FollowsBy' x to Keep r → FollowsBy' x to2 Keep2 (bind r k)
      join (Gives a s) h = after x (to h.1 a s h.0) (k a s) h.2 ((g h.1 a s h.0 h.3).by)
      join (Stops y s) h = h

  pub by_bind : {A B : Type 0} {x : Point} {to : List ℤ → A → State → World → Point} {to2 : B → State → World → Point} {Keep : List ℤ → A → State → World → Type 0} {Keep2 : B → State → World → Type 0} {r : Res A} {k : A → M B} → FollowsBy x to Keep r → ((ws : List ℤ) (a : A) (s : State) (w : World) → Keep ws a s w → Follows (to ws a s w) to2 Keep2 (k a s)) → Follows x to2 Keep2 (bind r k)
  by_bind {A} {B} {x} {to} {to2} {Keep} {Keep2} {r} {k} f g = record { by = join r f.by }
    where
      after : (x y : Point) (r : Res B) → Reach x y → Follows' y to2 Keep2 r → Follows' x to2 Keep2 r
      after x y (Gives b s) l h = (h.0, then_reach l h.1, h.2)
      after x y (Stops z s) l h = (h.0, then_reach l h.1, h.2)

      join : (r : Res A) → FollowsBy' x to Keep r → Follows' x to2 Keep2 (bind r k)
      join (Gives a s) h = after x (to h.1 a s h.0) (k a s) h.2 ((g h.1 a s h.0 h.3).by)
      join (Stops y s) h = h

  pub stands_any : {cs : List Active} {b : ℕ} {os : List AnObject} {s : State} {w : World} → Kept c cs b os s w → Stands c s w
  stands_any {cs} {b} {os} {s} {w} st = subst (λ cs. StandIn c cs s w) (sym st.calls) st.all
