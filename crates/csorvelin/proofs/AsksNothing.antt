-- Demand 1, of the C interface: `asks_nothing`, no function asks anything of its caller, so that every call can be made.
use contract.Lifetimes.{Lfts}
use borrow.Fn.Kinds as kinds
use Rattle.csorvelin.proofs.csorvelin_work_out.Kinds as work_out_kinds
use Rattle.csorvelin.proofs.csorvelin_work_out.Reads as work_out_reads
use Rattle.csorvelin.proofs.csorvelin_empty.Kinds as empty_kinds
use Rattle.csorvelin.proofs.csorvelin_empty.Reads as empty_reads
use Rattle.csorvelin.proofs.csorvelin_file.Kinds as file_kinds
use Rattle.csorvelin.proofs.csorvelin_file.Reads as file_reads
use Rattle.csorvelin.proofs.csorvelin_show.Kinds as show_kinds
use Rattle.csorvelin.proofs.csorvelin_show.Reads as show_reads
use Rattle.csorvelin.proofs.csorvelin_worst.Kinds as worst_kinds
use Rattle.csorvelin.proofs.csorvelin_worst.Reads as worst_reads
use Rattle.csorvelin.proofs.csorvelin_load.Kinds as load_kinds
use Rattle.csorvelin.proofs.csorvelin_load.Reads as load_reads
use Rattle.csorvelin.proofs.csorvelin_export.Kinds as export_kinds
use Rattle.csorvelin.proofs.csorvelin_export.Reads as export_reads

pub asks_nothing : (κs₁ : Lfts 1) (κs₂ : Lfts 2) (κs₃ : Lfts 3) (κs₄ : Lfts 4) (o : kinds.Dens κs₂ work_out_kinds.ps) (e : kinds.Dens κs₂ empty_kinds.ps)
    (f : kinds.Dens κs₄ file_kinds.ps) (s : kinds.Dens κs₃ show_kinds.ps) (w : kinds.Dens κs₂ worst_kinds.ps)
    (l : kinds.Dens κs₁ load_kinds.ps) (x : kinds.Dens κs₂ export_kinds.ps)
    → work_out_reads.Asked κs₂ o
    × empty_reads.Asked κs₂ e
    × file_reads.Asked κs₄ f
    × show_reads.Asked κs₃ s
    × worst_reads.Asked κs₂ w
    × load_reads.Asked κs₁ l
    × export_reads.Asked κs₂ x
asks_nothing κs₁ κs₂ κs₃ κs₄ o e f s w l x = (tt, tt, tt, tt, tt, tt, tt)
