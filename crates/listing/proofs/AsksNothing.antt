-- Demand 1, of the printed archive: `asks_nothing`, `print` asks nothing of its caller, so that every call can be made.
use contract.Lifetimes.{Lfts}
use borrow.Fn.Kinds as kinds
use Rattle.listing.proofs.print.Kinds as print_kinds
use Rattle.listing.proofs.print.Reads as print_reads

pub asks_nothing : (κs : Lfts 2) (p : kinds.Dens κs print_kinds.ps) → print_reads.Asked κs p
asks_nothing κs p = tt
