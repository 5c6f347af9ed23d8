-- The one exception of document 01, "How much each contract has to say": the contract of `files::load` does not determine its answer.
use Rattle.std.specs.Prelude.{◌≡◌, refl, true, false, ℕ, Option, Some, None, is_some, Ok, Err}
use Rattle.std.proofs.Common.{ap, arith}
use Rattle.std.specs.declared.fs.files.Files
use Rattle.std.specs.declared.fs.files.OpenFile
use Rattle.std.specs.declared.io.traits.Read
use Rattle.std.specs.declared.io.traits.Seek
use Rattle.std.specs.declared.io.traits.Write
use mir.Syntax.{Dict}
use contract.Lifetimes.{Lfts}
use denote.Param.Laws.{Laws}
use denote.RattleType.{RattleType}
use denote.Triple.Entry.{Args, Res}
use Rattle.laws.specs.Truth.{pick}
use Rattle.laws.specs.TruthLaws.{clash}
use Rattle.files.specs.contracts.load as stated
use Rattle.files.proofs.load.Reads as read
use Rattle.evidence.specs.OneAnswer.{OneAnswer}

-- a file that opened and has no byte, and one that did not open
abbrev empty : Option ℕ
empty = Some 0

abbrev missing : Option ℕ
missing = None

-- Whatever opens files, and what it opens.
module _ (R : RattleType) (File : RattleType) (Dir : RattleType) (LR : Laws R) (LF : Laws File) (LD : Laws Dir)
    (files : Files.Ghosts R.Denot File.Denot Dir.Denot) (d1 : Dict) (reads : Read.Ghosts File.Denot) (d2 : Dict)
    (writes : Write.Ghosts File.Denot) (d3 : Dict) (seeks : Seek.Ghosts File.Denot) (d4 : Dict)
    (opens : OpenFile.Ghosts File.Denot) (d5 : Dict) (lists : Read.Ghosts Dir.Denot) (d6 : Dict) (d7 d8 : Dict) where
  -- 1 of a file that opened
  abbrev tells : (κs : Lfts 6) → Res (stated.signature R File Dir) κs → ℕ
  tells κs (Ok l) = pick (is_some l) 1 0
  tells κs (Err e) = 0

  -- Both meet it, of any name and any buffer.
  pub load_open : (κs : Lfts 6) (a : Args (stated.signature R File Dir) κs) → OneAnswer (stated.ended R File Dir files d1 reads d2 writes d3 seeks d4 opens d5 lists d6 d7 d8) (read.Learnt R File Dir LR LF LD files d1 reads d2 writes d3 seeks d4 opens d5 lists d6 d7 d8) → ⊥
  load_open κs a one =
      let same : ◌≡◌ {A = Res (stated.signature R File Dir) κs} (Ok empty) (Ok missing) = (one κs a (Ok empty) (Ok missing) (_, (_, (a.1.1.0.now, _))) (_, (_, (a.1.1.0.now, _)))
      (omega arith, (λ e. absurd (clash refl (ap is_some e)), tt))
      (omega arith, (λ e. refl, tt))).0 in
      let z : ◌≡◌ {A = ℕ} 1 0 = ap (tells κs) same in
      omega arith
