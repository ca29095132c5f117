-- One token more.
use Rattle.std.proofs.Common.{◌≡◌, refl, sym, ap, ◌∙◌, Bool, true, false, List, [], ◌∷◌, ◌++◌, Ok, Err}
use Rattle.ob_tree.specs.declared.symbol.Symbol.TheVariants as s
use Rattle.ob_tree.specs.declared.token.Token.{Token}
use denote.Enum.Bare.{sameb, true_same}
use Rattle.ob_tree.specs.contracts.symbol.Symbol.{the_type}
use Rattle.ob_scan.specs.declared.fault.ScanFault.{ScanFault}
use Rattle.ob_scan.specs.declared.fault.ScanFault.TheVariants as fault
use Rattle.ob_scan.specs.Scanning.{Input, lexeme_of, Step, Gives, Faults, step, Leads, Steps, Scans}

gives_of : (u : Step) (old : Input) (t : Token) (new : Input) → Steps u old (Ok t) new → u ≡ Gives (lexeme_of t) new
gives_of (Gives l i) old t new h = ap (λ x. Gives x i) (sym h.0) ∙ ap (λ j. Gives (lexeme_of t) j) (sym h.1)
gives_of (Faults f) old t new h = absurd h

pub leads_on : (i : Input) (ts : List Token) (j k : Input) (t : Token) → Leads i ts j → Steps (step j) j (Ok t) k → (t.symbol ≡ s.End → ⊥) → Leads i (ts ++ t ∷ []) k
leads_on i [] j k t h g n = (k, ap step h ∙ gives_of (step j) j t k g, n, refl)
leads_on i (u ∷ us) j k t h g n = (h.0, h.1, h.2, leads_on h.0 us j k t h.3 g n)

pub scans_all : (i : Input) (ts : List Token) (j k : Input) (t : Token) → Leads i ts j → Steps (step j) j (Ok t) k → t.symbol ≡ s.End → Scans i (Ok (ts ++ t ∷ []))
scans_all i ts j k t h g e = (ts, t, j, k, refl, h, gives_of (step j) j t k g, e)

faults_of : (u : Step) (old : Input) (f : ScanFault) (new : Input) → Steps u old (Err f) new → u ≡ Faults f
faults_of (Gives l i) old f new h = absurd h
faults_of (Faults g) old f new h = ap (λ x. Faults x) (sym h.0)

pub scans_fault : (i : Input) (ts : List Token) (j k : Input) (f : ScanFault) → Leads i ts j → Steps (step j) j (Err f) k → Scans i (Err f)
scans_fault i ts j k fault.Memory h g = tt
scans_fault i ts j k (fault.Symbol p) h g = (ts, j, h, faults_of (step j) j (fault.Symbol p) k g)
scans_fault i ts j k (fault.Real p) h g = (ts, j, h, faults_of (step j) j (fault.Real p) k g)
scans_fault i ts j k (fault.Limit p) h g = (ts, j, h, faults_of (step j) j (fault.Limit p) k g)

clash : (b : Bool) → b ≡ true → b ≡ false → ⊥
clash b e h = cc

pub not_end : (t : Token) → sameb the_type t.symbol s.End ≡ false → t.symbol ≡ s.End → ⊥
not_end t h e = clash (sameb the_type t.symbol s.End) (true_same the_type t.symbol s.End e) h
