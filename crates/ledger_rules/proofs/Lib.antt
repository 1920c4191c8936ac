mod FittingRows
mod WholeFiles
