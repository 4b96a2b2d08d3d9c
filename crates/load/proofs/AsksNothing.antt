-- `asks_nothing`: no function asks anything of its caller, so that every figure has its load.
use contract.Lifetimes.{Lfts}
use borrow.Fn.Kinds as kinds
use Rattle.load.proofs.load_pattern.Kinds as pattern_kinds
use Rattle.load.proofs.load_pattern.Reads as pattern_reads
use Rattle.load.proofs.load.Kinds as load_kinds
use Rattle.load.proofs.load.Reads as load_reads

pub asks_nothing : (κs : Lfts 0) (p : kinds.Dens κs pattern_kinds.ps) (l : kinds.Dens κs load_kinds.ps)
    → pattern_reads.Asked κs p
    × load_reads.Asked κs l
asks_nothing κs p l = (tt, tt)
